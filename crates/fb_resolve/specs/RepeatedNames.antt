-- Elements with the key of one before.
use Rattle.std.specs.Prelude.{ℕ, ◌==◌, ◌++◌, Bool, List, [], ◌∷◌, map}
use Rattle.std.specs.List.{list_any}
use Rattle.std.specs.Str.{bytes_eq}
use Rattle.fb_schema.specs.Schema.{Name}

-- an element with the key of one before it
abbrev pub is_again : {X K : Type 0} → (K → K → Bool) → (X → K) → List X → X → Bool
is_again eq key before x = list_any (eq (key x)) (map key before)

-- of each element whether it is such a one, where these stand before all
abbrev pub again_behind : {X K : Type 0} → (K → K → Bool) → (X → K) → List X → List X → List Bool
again_behind eq key before [] = []
again_behind eq key before (x ∷ xs) = is_again eq key before x ∷ again_behind eq key (before ++ x ∷ []) xs

-- of each element whether one before it has its name
abbrev pub repeated_names : {X : Type 0} → (X → Name) → List X → List Bool
repeated_names name xs = again_behind bytes_eq name [] xs

-- of each number whether it is among those before it
abbrev pub repeated_numbers : List ℕ → List Bool
repeated_numbers numbers = again_behind (λ n m. n == m) (λ n. n) [] numbers
