-- A line with the object of a finding.
use Rattle.std.proofs.Common.{◌≡◌, ◌++◌, ◌∷◌, List, [], ℕ, refl}
use Rattle.json.specs.Token.{Token}
use Rattle.json.specs.Print.{print}

pub ended : (line out before first : List ℕ) (none tokens object : List Token) → line ≡ out ++ 10 ∷ []
    → out ≡ before ++ print tokens → before ≡ first → first ≡ [] → tokens ≡ none ++ object → none ≡ []
    → line ≡ print object ++ 10 ∷ []
ended line out before first none tokens object pushed printed kept empty added fresh =
    rw (pushed, printed, kept, empty, added, fresh) refl
