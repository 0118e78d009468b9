-- The value of digits, read from the front.
use Rattle.std.proofs.Common.{◌≡◌, ℕ, zero, suc, ◌+◌, ◌*◌, ◌<◌, ◌≤◌, List, [], ◌∷◌, length, get_or, drop, map, refl}
use Rattle.std.proofs.Common.{arith}
use Rattle.std.proofs.lemmas.Int.Digits.{number_after_ge}
use Rattle.std.specs.Int.Digits.{number_from_digits_after}
use Rattle.fb_syntax.specs.Integers.{digit_value}

pub one_digit : (base high i : ℕ) (cs : List ℕ) → i < length cs
    → number_from_digits_after base high (map digit_value (drop i cs)) ≡ number_from_digits_after base
    (high * base + digit_value (get_or cs i 0)) (map digit_value (drop (suc i) cs))
one_digit base high i [] h = absurd (omega arith)
one_digit base high zero (c ∷ cs) h = refl
one_digit base high (suc i) (c ∷ cs) h = one_digit base high i cs (omega arith)

pub at_least : (base high i : ℕ) (cs : List ℕ) → 0 < base → i < length cs
    → high * base + digit_value (get_or cs i 0) ≤ number_from_digits_after base high (map digit_value (drop i cs))
at_least base high i cs b h = rw (one_digit base high i cs h)
    (number_after_ge base _ (map digit_value (drop (suc i) cs)) b)
