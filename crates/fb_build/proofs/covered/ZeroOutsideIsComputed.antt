-- Whether bytes that nothing takes are 0, computed.
use Rattle.std.proofs.Common.{◌≡◌, ℕ, zero, suc, ◌+◌, ◌<◌, ◌⊎◌, inl, inr, Bool, true, false, ◌||◌, ◌==◌, slice_index}
use Rattle.std.proofs.Common.{refl, sym, ◌∙◌, arith}
use Rattle.std.proofs.lemmas.Bool.{false≢true, and_from, and_parts, or_left, or_right, or_cases, eqb-true, eq-eqb}
use Rattle.std.proofs.lemmas.Bool.{cases_eq, cases_Bool}
use Rattle.fb_value.specs.Num.{Bytes}
use Rattle.fb_tape.specs.Taken.{ZeroUnless, are_zero_unless, ZeroIsComputed}

module _ (taken : ℕ → Bool) (b : Bytes) (p : ℕ) where
  one_zero : (i : ℕ) → (taken i || (slice_index b (p + i) == 0)) ≡ true → taken i ≡ false → slice_index b (p + i) ≡ 0
  one_zero i h free =
      by_cases (or_cases (taken i) (slice_index b (p + i) == 0) h)
    where
      by_cases : (taken i ≡ true) ⊎ ((slice_index b (p + i) == 0) ≡ true) → slice_index b (p + i) ≡ 0
      by_cases (inl e) = absurd (false≢true (sym free ∙ e))
      by_cases (inr e) = eqb-true _ _ e

  pub zero_by_test : (n : ℕ) → are_zero_unless taken b p n ≡ true → ZeroUnless taken b p n
  unfolding are_zero_unless
  zero_by_test zero h i below free = absurd (omega (arith, below))
  zero_by_test (suc n) h i below free =
      let parts = and_parts _ _ h in
      by_cases parts.0 (λ less. zero_by_test n parts.1 i less free) (cases_eq i n)
    where
      by_cases : (taken n || (slice_index b (p + n) == 0)) ≡ true → (i < n → slice_index b (p + i) ≡ 0)
          → (i ≡ n) ⊎ (i ≡ n → ⊥) → slice_index b (p + i) ≡ 0
      by_cases last more (inl e) =
          one_zero i (rw e last) free
      by_cases last more (inr ne) = more (omega (arith, below, ne))

  one_test : (i : ℕ) → (taken i ≡ false → slice_index b (p + i) ≡ 0) → (taken i || (slice_index b (p + i) == 0)) ≡ true
  one_test i h =
      by_cases (cases_Bool (taken i))
    where
      by_cases : (taken i ≡ true) ⊎ (taken i ≡ false) → (taken i || (slice_index b (p + i) == 0)) ≡ true
      by_cases (inl e) = or_left _ _ e
      by_cases (inr e) = or_right _ _ (eq-eqb _ _ (h e))

  test_of_zero : (n : ℕ) → ZeroUnless taken b p n → are_zero_unless taken b p n ≡ true
  unfolding are_zero_unless
  test_of_zero zero h = refl
  test_of_zero (suc n) h = and_from _ _ (one_test n (h n (omega arith)))
      (test_of_zero n (λ i below free. h i (omega (arith, below)) free))

pub zero_is_computed_shown : ZeroIsComputed
zero_is_computed_shown taken b p n = (zero_by_test taken b p n, test_of_zero taken b p n)
