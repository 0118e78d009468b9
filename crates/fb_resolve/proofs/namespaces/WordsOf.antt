-- The words of a name between its dots.
use Rattle.std.proofs.Common.{◌≡◌, ℕ, inl, inr, [], ◌∷◌, ◌++◌, refl, sym, ap, ◌∙◌}
use Rattle.std.proofs.lemmas.Bool.Decides.{eqb_tells}
use Rattle.fb_syntax.specs.Signs.{dot}
use Rattle.fb_schema.specs.Schema.{Name}
use Rattle.fb_resolve.specs.Words.{Path, with_first, words}

-- words with a dot before each
abbrev dotted : Path → Name
dotted [] = []
dotted (w ∷ ws) = dot ∷ w ++ dotted ws

dotted-first : (c : ℕ) (ws : Path) (cs : Name) → dotted ws ≡ dot ∷ cs → dotted (with_first c ws) ≡ dot ∷ c ∷ cs
dotted-first c [] cs e = cc
dotted-first c (w ∷ ws) cs e = cc

-- the words with a dot before each are the name behind a dot
dotted-words : (n : Name) → dotted (words n) ≡ dot ∷ n
dotted-words [] = refl
dotted-words (c ∷ cs) = elim (eqb_tells c dot) [
  | inl t ↦ rw t.0 (cc (dotted-words cs, t.1))
  | inr t ↦ rw t.0 (dotted-first c (words cs) cs (dotted-words cs))
]

-- names of the same words are the same
pub words-inj : (m n : Name) → words m ≡ words n → m ≡ n
words-inj m n e = let same : dot ∷ m ≡ dot ∷ n = sym (dotted-words m) ∙ ap dotted e ∙ dotted-words n in cc

with_first-append : (c : ℕ) (ws vs : Path) (cs : Name) → dotted ws ≡ dot ∷ cs
    → with_first c (ws ++ vs) ≡ with_first c ws ++ vs
with_first-append c [] vs cs e = cc
with_first-append c (w ∷ ws) vs cs e = refl

-- the words of a name inside another
pub words-inside : (outer name : Name) → words (outer ++ dot ∷ name) ≡ words outer ++ words name
words-inside [] name = refl
words-inside (c ∷ cs) name = elim (eqb_tells c dot) [
  | inl t ↦ rw t.0 (ap (λ ws. [] ∷ ws) (words-inside cs name))
  | inr t ↦ rw t.0 (ap (with_first c) (words-inside cs name)
      ∙ with_first-append c (words cs) (words name) cs (dotted-words cs))
]
