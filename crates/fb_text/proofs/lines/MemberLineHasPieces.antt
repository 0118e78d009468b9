-- The line of a member, piece by piece.
use Rattle.std.proofs.Common.{◌≡◌, ℕ, List, ◌++◌, Bool, Option, ap}
use Rattle.std.specs.Prelude.{codes}
use Rattle.fb_text.specs.Texts.{line, colon, member_line}

-- in front of the name, the name, and what stands behind it
pub pieces : (indent : Option (List ℕ)) (some : Bool) (name behind tail : List ℕ) → tail ≡ behind ++ colon indent
    → line indent some ++ (codes "\"" ++ (name ++ tail)) ≡ member_line indent some name behind
pieces indent some name behind tail is = ap (λ (l : List ℕ). line indent some ++ (codes "\"" ++ (name ++ l))) is
