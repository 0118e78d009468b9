-- A path put together word by word.
use Rattle.std.proofs.Common.{IfNone, None, ◌≡◌, ◌<◌, ℕ, List, [], ◌∷◌, ◌++◌, length, get_or, slice_get, reverse}
use Rattle.std.proofs.Common.{Option, Some, sym, ap, ◌∙◌, append_assoc}
use Rattle.std.proofs.lemmas.List.{reverse-append}
use Rattle.std.proofs.lemmas.Option.{get_or_from_slice_get, slice_get_within}
use Rattle.fb_schema.specs.Schema.{Name}
use Rattle.fb_resolve.specs.Words.{Path}
use Rattle.fb_resolve.specs.PathTree.{child_of}

-- a path that has a number, and the words that are left, make up the whole
pub record IsLeft (ps : List Path) (path : ℕ) (rest whole : Path) : Type 0 where
  pub inside : path < length ps
  pub left : get_or ps path [] ++ rest ≡ whole

-- one word more
pub left_more : (ps new : List Path) (path n : ℕ) (word : Name) (rest more whole : Path) → IsLeft ps path rest whole
    → rest ≡ word ∷ more → slice_get new n ≡ Some (child_of ps path word) → IsLeft new n more whole
left_more ps new path n word rest more whole is e at = record {
  inside = slice_get_within new n (child_of ps path word) at;
  left = ap (λ p. p ++ more) (get_or_from_slice_get new n (child_of ps path word) [] at)
      ∙ append_assoc (get_or ps path []) (word ∷ []) more ∙ ap (λ r. get_or ps path [] ++ r) (sym e) ∙ is.left;
}

-- the last word
pub left_last : (ps new : List Path) (path n : ℕ) (word : Name) (rest whole : Path) → IsLeft ps path rest whole
    → rest ≡ word ∷ [] → slice_get new n ≡ Some (child_of ps path word) → slice_get new n ≡ Some whole
left_last ps new path n word rest whole is e at = at
    ∙ ap (λ p. Some p) (ap (λ r. get_or ps path [] ++ r) (sym e) ∙ is.left)

-- the words of what is left, the last one first
pub reversed_last : (front : Path) (word : Name) (rest : Path) → rest ≡ front ++ word ∷ []
    → reverse rest ≡ word ∷ reverse front
reversed_last front word rest e = ap reverse e ∙ reverse-append front (word ∷ [])

-- what holds where there is no value, told in another way
pub if_none : {T P Q : Type 0} (o : Option T) → (P → Q) → IfNone o P → IfNone o Q
if_none None f h = f h
if_none (Some x) f h = tt
