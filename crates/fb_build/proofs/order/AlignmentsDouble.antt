-- Alignments are powers of two: what is above one is at least its double.
use Rattle.std.proofs.Common.{◌≡◌, ℕ, ◌+◌, ◌*◌, ◌^◌, ◌<◌, ◌≤◌, ◌⊎◌, inl, inr, nat_lt, nat_le, arith}
use Rattle.std.proofs.lemmas.Bool.Decides.{nat_tests}
use Rattle.std.proofs.lemmas.Nat.{pow-add, pow_pos, pow_below}
use Rattle.std.proofs.Math.Pow.{pow_mono}
use Rattle.fb_layout.specs.Sizes.{IsAlignment}
use Rattle.fb_layout.proofs.sizes.AlignmentsArePowersOfTwo.{lower}

pub twice : (c : ℕ) → 2 ^ (c + 1) ≡ 2 * 2 ^ c
twice c = let e : 2 ^ (c + 1) ≡ 2 ^ c * 2 ^ 1 = pow-add 2 c 1 in omega (arith, e)

both_tests : (p q r : ℕ) → (q ≤ p) × (p < r) ⊎ (p < q) × (r ≤ q) → nat_lt p q ≡ nat_le r q
both_tests p q r (inl h) = let low = h.0 in let less = h.1 in grind (arith, nat_tests)
both_tests p q r (inr h) = let low = h.0 in let less = h.1 in grind (arith, nat_tests)

-- above one power is from the next one on
pub next_power : (c n : ℕ) → IsAlignment n → nat_lt (2 ^ c) n ≡ nat_le (2 ^ (c + 1)) n
next_power c n p = both_tests (2 ^ c) n (2 ^ (c + 1)) (by_case (lower p.exponent c))
  where
    by_case : (p.exponent ≤ c) ⊎ (c < p.exponent)
        → (n ≤ 2 ^ c) × (2 ^ c < 2 ^ (c + 1)) ⊎ (2 ^ c < n) × (2 ^ (c + 1) ≤ n)
    by_case (inl low) =
        let le : 2 ^ p.exponent ≤ 2 ^ c = pow_mono {i = p.exponent} {j = c} low in
        inl (omega (arith, le, p.is), omega (arith, twice c, pow_pos c))
    by_case (inr high) =
        let le : 2 ^ (c + 1) ≤ 2 ^ p.exponent = pow_mono {i = c + 1} {j = p.exponent} (omega (arith, high)) in
        inr (omega (arith, le, p.is, twice c, pow_pos c), omega (arith, le, p.is))

-- none is above 256
pub under_all : (n : ℕ) → IsAlignment n → n < 2 ^ 9
under_all n p = let less : 2 ^ p.exponent < 2 ^ 9 = pow_below p.exponent 9 (omega (arith, p.few)) in
    omega (arith, less, p.is)
