-- The tokens of a run of values, a comma and a further run.
use Rattle.std.specs.Prelude.{◌≡◌, List, [], ◌∷◌, ◌++◌, Bool, true, false, fold, ⊤}
use Rattle.json.specs.Token.{Token}
use Rattle.json.specs.Align.{is_good}
use Rattle.json.specs.Print.{begins, ends}
use Rattle.json.specs.Lex.{Lexeme, comma, fresh, punctuate}

-- whether the last of these tokens ends a value; before is the answer for none
abbrev pub ends_value_after : Bool → List Token → Bool
ends_value_after = fold (λ before t. ends t)

-- No token is `bad`.
abbrev pub AreGood : List Token → Type 0
AreGood [] = ⊤
AreGood (t ∷ ts) = (is_good t ≡ true) × AreGood ts

-- whether a value or a member begins with the first of these tokens
abbrev pub opens : List Token → Bool
opens [] = false
opens (t ∷ ts) = begins t

-- good tokens, of which the first begins a value or a member, and the last ends one
pub record AreValues (ts : List Token) : Type 0 where
  pub good : AreGood ts
  pub first : opens ts ≡ true
  pub last : ends_value_after false ts ≡ true

-- The tokens of two runs of values with a comma between them are those of the two.
abbrev pub TokensSplit : Type 0
TokensSplit = (run next : List Lexeme) → AreValues (punctuate fresh run) → AreValues (punctuate fresh next)
    → punctuate fresh (run ++ comma ∷ next) ≡ punctuate fresh run ++ punctuate fresh next
