-- After a digest one of the numbers is no key.
use Rattle.std.proofs.Common.{◌≡◌, ℕ, zero, suc, ◌+◌, ◌≤◌, ◌<◌, ◌^◌, Bool, true, false, List, [], ◌∷◌, length, nat_eq}
use Rattle.std.proofs.Common.{refl, ap, arith, eqb-true, ne_eqb}
use Rattle.std.specs.List.{list_any, AllByRecursion, IsDistinct}
use Rattle.std.proofs.lemmas.Cmp.{nat_eq_equiv}
use Rattle.std.proofs.lemmas.Map.Made.{length-le_from_is_member}
use Rattle.fb_index.specs.DigestIndexes.{key_after}

module _ (digest : ℕ) where
  -- the first numbers from the digest on
  keys_from : ℕ → List ℕ
  keys_from zero = []
  keys_from (suc n) = key_after digest n ∷ keys_from n

  length-keys_from : (n : ℕ) → length (keys_from n) ≡ n
  unfolding keys_from
  length-keys_from zero = refl
  length-keys_from (suc n) = ap suc (length-keys_from n)

  apart : (m n : ℕ) → m < n → n < 2 ^ 32 → key_after digest n ≡ key_after digest m → ⊥
  apart m n below low same = omega (arith, same)

  all_apart : (n m : ℕ) → m ≤ n → n < 2 ^ 32
      → AllByRecursion (λ y. nat_eq (key_after digest n) y ≡ false) (keys_from m)
  unfolding keys_from
  all_apart n zero le low = tt
  all_apart n (suc m) le low =
      let other = ne_eqb (key_after digest n) (key_after digest m) (apart m n (omega (arith, le)) low) in
      (other, all_apart n m (omega (arith, le)) low)

  distinct : (n : ℕ) → n < 2 ^ 32 → IsDistinct nat_eq (keys_from n)
  unfolding IsDistinct keys_from
  distinct zero low = tt
  distinct (suc n) low = (all_apart n n (omega arith) (omega (arith, low)), distinct n (omega (arith, low)))

  among : (keys : List ℕ) (n : ℕ) → ((m : ℕ) → m < n → list_any (nat_eq (key_after digest m)) keys ≡ true)
      → (q : ℕ) → list_any (nat_eq q) (keys_from n) ≡ true → list_any (nat_eq q) keys ≡ true
  unfolding keys_from
  among keys zero taken q any = cc
  among keys (suc n) taken q any =
      by (nat_eq q (key_after digest n)) refl (among keys n (λ m low. taken m (omega (arith, low))) q)
    where
      by : (b : Bool) → nat_eq q (key_after digest n) ≡ b
          → (list_any (nat_eq q) (keys_from n) ≡ true → list_any (nat_eq q) keys ≡ true)
          → list_any (nat_eq q) keys ≡ true
      by true e rest = rw (eqb-true q (key_after digest n) e) (taken n (omega arith))
      by false e rest = rest (rw e at any)

  -- not all of them are keys
  pub one_is_free : (keys : List ℕ) → length keys + 1 < 2 ^ 32
      → ((n : ℕ) → n < length keys + 1 → list_any (nat_eq (key_after digest n)) keys ≡ true) → ⊥
  one_is_free keys few taken =
      let n = length keys + 1 in
      let le = length-le_from_is_member nat_eq_equiv (keys_from n) keys (distinct n few) (among keys n taken) in
      let long = length-keys_from n in
      omega (arith, le, long)
