-- Alignments fall from 256 to 1, each the double of the next.
use Rattle.std.proofs.Common.{◌≡◌, ◌≤◌, ◌<◌, ◌+◌, ◌^◌, ◌==◌, ◌||◌, ◌⊎◌, inl, inr, ℕ, zero, suc, true, false, Bool}
use Rattle.std.proofs.Common.{if◌then◌else◌, nat_lt, List, [], ◌∷◌, refl, ap, arith}
use Rattle.std.proofs.Math.Pow.{pow-lt, pow_mono}
use Rattle.std.proofs.lemmas.Bool.{le-ltb, lt-ltb, ne_eqb}
use Rattle.std.proofs.lemmas.Bool.Decides.{nat_tests}

abbrev pub among : ℕ → List ℕ → Bool
among n [] = false
among n (m ∷ ms) = (n == m) || among n ms

abbrev pub EachOnce : List ℕ → Type 0
EachOnce [] = Unit {0}
EachOnce (m ∷ ms) = (among m ms ≡ false) × EachOnce ms

-- from 2^e down to 1; those of `falling_alignments` are from 2^8
abbrev pub falling_from : ℕ → List ℕ
falling_from zero = 1 ∷ []
falling_from (suc e) = 2 ^ suc e ∷ falling_from e

pub same_power : (e : ℕ) → (2 ^ e == 2 ^ e) ≡ true
same_power e = same (2 ^ e)
  where
    same : (n : ℕ) → (n == n) ≡ true
    same n = grind (arith, nat_tests)

-- two powers, the first below the second
pub other_power : (e d : ℕ) → e < d → ((2 ^ e == 2 ^ d) ≡ false) × ((2 ^ d == 2 ^ e) ≡ false)
other_power e d less =
    let low : 2 ^ e < 2 ^ d = pow-lt less in (
      ne_eqb (2 ^ e) (2 ^ d) (λ is. omega (arith, low, is)),
      ne_eqb (2 ^ d) (2 ^ e) (λ is. omega (arith, low, is)),
    )

pub first_or_below : (e d : ℕ) → e ≤ suc d → (e ≡ suc d) ⊎ (e ≤ d)
first_or_below zero d low = inr (omega arith)
first_or_below (suc zero) zero low = inl refl
first_or_below (suc (suc e)) zero low = absurd (omega (arith, low))
first_or_below (suc e) (suc d) low = one_more (first_or_below e d (omega (arith, low)))
  where
    one_more : (e ≡ suc d) ⊎ (e ≤ d) → (suc e ≡ suc (suc d)) ⊎ (suc e ≤ suc d)
    one_more (inl is) = inl (ap suc is)
    one_more (inr less) = inr (omega (arith, less))

pub is_among : (e d : ℕ) → e ≤ d → among (2 ^ e) (falling_from d) ≡ true
is_among zero zero low = refl
is_among (suc e) zero low = absurd (omega (arith, low))
is_among e (suc d) low = by_place (first_or_below e d low) (is_among e d)
  where
    by_place : (e ≡ suc d) ⊎ (e ≤ d) → (e ≤ d → among (2 ^ e) (falling_from d) ≡ true)
        → among (2 ^ e) (falling_from (suc d)) ≡ true
    by_place (inl is) behind = rw (is, same_power (suc d)) refl
    by_place (inr less) behind = rw ((other_power e (suc d) (omega (arith, less))).0) (behind less)

none_above : (e d : ℕ) → d < e → among (2 ^ e) (falling_from d) ≡ false
none_above e zero less = rw ((other_power 0 e less).1) refl
none_above e (suc d) less = rw ((other_power (suc d) e less).1) (none_above e d (omega (arith, less)))

pub each_once : (e : ℕ) → EachOnce (falling_from e)
each_once zero = (refl, tt)
each_once (suc e) = (none_above (suc e) e (omega arith), each_once e)

-- A power is above 2^e if it is the next one, or above that.
pub next_or_above : (e d n : ℕ) → (if nat_lt (2 ^ e) (2 ^ d) then n else 0)
    ≡ (if 2 ^ d == 2 ^ suc e then n else 0) + (if nat_lt (2 ^ suc e) (2 ^ d) then n else 0)
next_or_above e d n = by_order (ordered e d)
  where
    ordered : (e d : ℕ) → (d ≤ e) ⊎ ((d ≡ suc e) ⊎ (suc e < d))
    ordered e zero = inl (omega arith)
    ordered zero (suc zero) = inr (inl refl)
    ordered zero (suc (suc d)) = inr (inr (omega arith))
    ordered (suc e) (suc d) = one_more (ordered e d)
      where
        one_more : (d ≤ e) ⊎ ((d ≡ suc e) ⊎ (suc e < d))
            → (suc d ≤ suc e) ⊎ ((suc d ≡ suc (suc e)) ⊎ (suc (suc e) < suc d))
        one_more (inl low) = inl (omega (arith, low))
        one_more (inr (inl is)) = inr (inl (ap suc is))
        one_more (inr (inr more)) = inr (inr (omega (arith, more)))

    next : 2 ^ e < 2 ^ suc e
    next = pow-lt (omega arith)

    by_order : (d ≤ e) ⊎ ((d ≡ suc e) ⊎ (suc e < d)) → (if nat_lt (2 ^ e) (2 ^ d) then n else 0)
        ≡ (if 2 ^ d == 2 ^ suc e then n else 0) + (if nat_lt (2 ^ suc e) (2 ^ d) then n else 0)
    by_order (inl low) =
        let below : 2 ^ d ≤ 2 ^ e = pow_mono low in
        rw (
          le-ltb (2 ^ e) (2 ^ d) below,
          (other_power d (suc e) (omega (arith, low))).0,
          le-ltb (2 ^ suc e) (2 ^ d) (omega (arith, below, next)),
        )
        refl
    by_order (inr (inl is)) =
        rw (is, lt-ltb (2 ^ e) (2 ^ suc e) next, same_power (suc e), le-ltb (2 ^ suc e) (2 ^ suc e) (omega arith))
        (omega arith)
    by_order (inr (inr more)) =
        let less : 2 ^ suc e < 2 ^ d = pow-lt more in
        rw (
          lt-ltb (2 ^ e) (2 ^ d) (omega (arith, less, next)),
          (other_power (suc e) d more).1,
          lt-ltb (2 ^ suc e) (2 ^ d) less,
        )
        (omega arith)
