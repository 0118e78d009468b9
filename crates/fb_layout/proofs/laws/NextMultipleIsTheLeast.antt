-- The least multiple, computed.
use Rattle.std.proofs.Common.{◌≡◌, ◌<◌, ◌≤◌, ◌+◌, ◌*◌, ◌-◌, ◌/◌, ◌%◌, ℕ, zero, suc, Bool, true, false, nat_le, refl}
use Rattle.std.proofs.Common.{sym, ap, ◌∙◌, arith}
use Rattle.std.specs.Int.{next_multiple_of}
use Rattle.std.proofs.lemmas.Bool.Decides.{nat_tests}
use Rattle.std.proofs.Math.Nat.{mod-lt, mod_self, mod-eq_of_lt, div-add-mod, mul-le-mul_right}
use Rattle.fb_layout.specs.Sizes.{IsLeastMultiple}

pub le-told : (k q : ℕ) → nat_le k q ≡ true → k ≤ q
le-told k q e = grind (arith, nat_tests)

gt-told : (k q : ℕ) → nat_le k q ≡ false → suc q ≤ k
gt-told k q e = grind (arith, nat_tests)

-- n is q times a and something below a; the next multiple is one more
behind : (a q r n : ℕ) → a * q + suc r ≡ n → suc r < a → IsLeastMultiple a n (n + (a - suc r))
behind a q r n is below = record {
  multiple = (suc q, sum);
  above = omega arith;
  least = λ k enough. least k enough (nat_le k q) refl;
}
  where
    sum : n + (a - suc r) ≡ suc q * a
    sum = omega (is, below, arith)

    least : (k : ℕ) → n ≤ k * a → (b : Bool) → nat_le k q ≡ b → n + (a - suc r) ≤ k * a
    least k enough true e = absurd (let over : k * a ≤ q * a = mul-le-mul_right a (le-told k q e) in omega (is, arith))
    least k enough false e = let over : suc q * a ≤ k * a = mul-le-mul_right a (gt-told k q e) in omega (sum, arith)

-- n is a multiple itself
itself : (a q n : ℕ) → a * q + 0 ≡ n → IsLeastMultiple a n (n + 0)
itself a q n is = record {
  multiple = (q, omega (is, arith));
  above = omega arith;
  least = λ k enough. omega arith;
}

-- the least multiple of a positive number
pub next-least : (a n : ℕ) → 0 < a → IsLeastMultiple a n (next_multiple_of n a)
next-least a n positive = by (n % a) refl
  where
    by : (r : ℕ) → n % a ≡ r → IsLeastMultiple a n (n + (a - n % a) % a)
    by zero e =
        let none : (a - n % a) % a ≡ 0 =
        ap (λ x. (a - x) % a) e ∙ ap (λ x. x % a) (let whole : a - 0 ≡ a = omega arith in whole) ∙ mod_self a in
        let is : a * (n / a) + 0 ≡ n = ap (λ x. a * (n / a) + x) (sym e) ∙ div-add-mod n a in
        rw none (itself a (n / a) n is)
    by (suc r) e =
        let below : suc r < a = rw (← e) (mod-lt n positive) in
        let less : a - suc r < a = omega (below, arith) in
        let rest : (a - n % a) % a ≡ a - suc r = ap (λ x. (a - x) % a) e ∙ mod-eq_of_lt less in
        let is : a * (n / a) + suc r ≡ n = ap (λ x. a * (n / a) + x) (sym e) ∙ div-add-mod n a in
        rw rest (behind a (n / a) r n is below)
