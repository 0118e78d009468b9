-- The order of laying visits each stored slot behind those that are laid before it.
use Rattle.std.proofs.Common.{◌≡◌, ℕ, suc, ◌+◌, ◌-◌, ◌^◌, ◌<◌, ◌⊎◌, ◌++◌, inl, inr, Bool, true, false, cond}
use Rattle.std.proofs.Common.{◌==◌, nat_lt, nat_le, List, [], ◌∷◌, slice_get, Option, None, Some, refl, sym, ◌∙◌}
use Rattle.std.proofs.Common.{arith, if◌then◌else◌}
use Rattle.std.proofs.lemmas.Bool.{lt-ltb, le-leb, and_parts, eqb-true, both_ways, cases_eq}
use Rattle.std.proofs.lemmas.Bool.Decides.{nat_tests}
use Rattle.std.proofs.lemmas.Nat.{pow_pos}
use Rattle.fb_layout.specs.Laid.{LaidSchema, Slot}
use Rattle.fb_layout.specs.Widths.{inline_align}
use Rattle.fb_value.specs.Datum.{Datum}
use Rattle.fb_tape.specs.LayingOrder.{slots_at, laying_order}
use Rattle.fb_build.specs.FieldOrder.{IsStoredAt, SameOfStored, LinksNext, before}
use Rattle.fb_build.specs.Fields.{AreKnown, is_at, from, above}
use Rattle.fb_build.proofs.fields.AlignmentDividesTheSize.{simple_aligned}
use Rattle.fb_build.proofs.fields.FieldsFillTheTable.{other_slot, not_itself}
use Rattle.fb_build.proofs.fields.SlotStoresItsEntry.{same_some}
use Rattle.fb_build.proofs.order.AlignmentsDouble.{next_power, under_all}
use Rattle.fb_layout.proofs.sizes.AlignmentsArePowersOfTwo.{lower}

-- Slot k is the next to be laid once those are that pass a test, and `others` holds of its alignment.
pub record IsNext (L : LaidSchema) (fs : List Slot) (xs : List (Option Datum)) (laid : ℕ → Slot → Bool) (k : ℕ)
    (others : ℕ → Type 0) : Type 0 where
  pub align : ℕ
  pub there : IsStoredAt L align fs xs k
  pub behind : SameOfStored laid (before L align k) fs xs
  pub rest : others align

-- These slots are laid in turn, and then all are.
abbrev pub AreNext : LaidSchema → List Slot → List (Option Datum) → (ℕ → Slot → Bool) → List ℕ → Type 0
AreNext L fs xs laid [] = SameOfStored laid (λ k f. true) fs xs
AreNext L fs xs laid (k ∷ ks) = IsNext L fs xs laid k (λ a. AreNext L fs xs (before L a (k + 1)) ks)

-- the first of them, plus one; 0 for none
abbrev pub first_link : List ℕ → ℕ
first_link [] = 0
first_link (k ∷ ks) = k + 1

pub links_next : (L : LaidSchema) (fs : List Slot) (xs : List (Option Datum)) (laid : ℕ → Slot → Bool) (ks : List ℕ)
    → AreNext L fs xs laid ks → LinksNext L laid fs xs (first_link ks)
links_next L fs xs laid [] h = inl (refl, h)
links_next L fs xs laid (k ∷ ks) h =
    inr (record { slot = k; is = refl; align = h.align; there = h.there; behind = h.behind })

pub next_retested : (L : LaidSchema) (fs : List Slot) (xs : List (Option Datum)) (t u : ℕ → Slot → Bool) (ks : List ℕ)
    → SameOfStored t u fs xs → AreNext L fs xs u ks → AreNext L fs xs t ks
next_retested L fs xs t u [] same h = λ k f x fk xk is. same k f x fk xk is ∙ h k f x fk xk is
next_retested L fs xs t u (k ∷ ks) same h = record {
  align = h.align;
  there = h.there;
  behind = λ j f x fj xj is. same j f x fj xj is ∙ h.behind j f x fj xj is;
  rest = h.rest;
}

-- ---- those of one alignment, from slot j on

both_tests : (a n : ℕ) → (n ≡ a → ⊥) → nat_lt a n ≡ nat_le a n
both_tests a n ne = by_test (nat_lt a n) refl (nat_le a n) refl
  where
    by_test : (t : Bool) → nat_lt a n ≡ t → (u : Bool) → nat_le a n ≡ u → t ≡ u
    by_test true p true q = refl
    by_test false p false q = refl
    by_test true p false q = absurd (grind (arith, nat_tests))
    by_test false p true q = absurd (grind (arith, nat_tests))

not_first : (k : ℕ) → nat_lt k 0 ≡ false
not_first k = grind (arith, nat_tests)

module _ (L : LaidSchema) (a : ℕ) (fs : List Slot) (xs : List (Option Datum)) (rest : List ℕ)
    (h : AreNext L fs xs (λ k f. from L a f) rest) where
  -- no slot is left
  none_left : (j : ℕ) → ((k : ℕ) (f : Slot) (x : Option Datum) → slice_get fs k ≡ Some f → slice_get xs k ≡ Some x
      → k < j) → AreNext L fs xs (before L a j) rest
  none_left j under = next_retested L fs xs (before L a j) (λ k f. from L a f) rest
      (λ k f x fk xk is. rw (lt-ltb k j (under k f x fk xk)) refl) h

  -- one that isn't of this alignment
  passed_by : (j : ℕ) (g : Slot) (y : Option Datum) → slice_get fs j ≡ Some g → slice_get xs j ≡ Some y
      → is_at L a g y ≡ false → SameOfStored (before L a j) (before L a (j + 1)) fs xs
  passed_by j g y fj xj out k f x fk xk is = by_case (cases_eq k j)
    where
      elsewhere : (inline_align L f.shape ≡ a → ⊥) → cond false (from L a f) (above L a f)
          ≡ cond true (from L a f) (above L a f)
      elsewhere ne = both_tests a (inline_align L f.shape) ne

      by_case : (k ≡ j) ⊎ (k ≡ j → ⊥) → before L a j k f ≡ before L a (j + 1) k f
      by_case (inr ne) = other_slot L a k j f ne
      by_case (inl same) =
          let f_is : f ≡ g = same_some (slice_get fs j) f g (rw same at fk) fj in
          let x_is : x ≡ y = same_some (slice_get xs j) x y (rw same at xk) xj in
          let next : nat_lt j (j + 1) ≡ true = lt-ltb j (j + 1) (omega arith) in
          let ne : inline_align L f.shape ≡ a → ⊥ = λ at. both_ways (is_at L a f x)
          (rw (f_is, x_is) out) (rw (is, at) (self_equal a)) in
          rw (same, not_itself j, next) (elsewhere ne)
        where
          self_equal : (a : ℕ) → (a == a) ≡ true
          self_equal a = grind (arith, nat_tests)

  one_slot : (j : ℕ) (g : Slot) (gs : List Slot) (y : Option Datum) (ys : List (Option Datum))
      → slice_get fs j ≡ Some g → slice_get xs j ≡ Some y
      → AreNext L fs xs (before L a (suc j)) (slots_at L a (suc j) gs ys ++ rest)
      → AreNext L fs xs (before L a j)
      ((if is_at L a g y then j ∷ slots_at L a (suc j) gs ys else slots_at L a (suc j) gs ys) ++ rest)
  one_slot j g gs y ys fj xj behind = by_test (is_at L a g y) refl
    where
      one : suc j ≡ j + 1
      one = omega arith

      next : AreNext L fs xs (before L a (j + 1)) (slots_at L a (suc j) gs ys ++ rest)
      next = rw (← one) behind

      by_test : (t : Bool) → is_at L a g y ≡ t
          → AreNext L fs xs (before L a j)
          ((if t then j ∷ slots_at L a (suc j) gs ys else slots_at L a (suc j) gs ys) ++ rest)
      by_test true is =
          let parts = and_parts _ _ is in
          record {
            align = a;
            there = record {
              field = g;
              entry = y;
              is = fj;
              has = xj;
              stored = parts.0;
              at = eqb-true _ _ parts.1;
            };
            behind = λ k f x fk xk stored. refl;
            rest = next;
          }
      by_test false out = next_retested L fs xs (before L a j) (before L a (j + 1)) (slots_at L a (suc j) gs ys ++ rest)
          (passed_by j g y fj xj out) next

  from_slot : (j : ℕ) (gs : List Slot) (ys : List (Option Datum)) → ((i : ℕ) → slice_get gs i ≡ slice_get fs (j + i))
      → ((i : ℕ) → slice_get ys i ≡ slice_get xs (j + i)) → AreNext L fs xs (before L a j) (slots_at L a j gs ys ++
      rest)
  unfolding slots_at
  from_slot j [] ys fields entries = none_left j (λ k f x fk xk. elim (lower j k) [
    | inr less ↦ less
    | inl over ↦ (
        let at : j + (k - j) ≡ k = omega (arith, over) in
        let none : None ≡ Some f = rw (← at) (fields (k - j)) ∙ fk in cc)
  ])
  from_slot j (g ∷ gs) [] fields entries = none_left j (λ k f x fk xk. elim (lower j k) [
    | inr less ↦ less
    | inl over ↦ (
        let at : j + (k - j) ≡ k = omega (arith, over) in
        let none : None ≡ Some x = rw (← at) (entries (k - j)) ∙ xk in cc)
  ])
  from_slot j (g ∷ gs) (y ∷ ys) fields entries =
      let here : j + 0 ≡ j = omega arith in
      one_slot j g gs y ys (sym (rw (← here) (fields 0)))
      (sym (rw (← here) (entries 0)))
      (from_slot (suc j) gs ys
      (λ i. let e : j + suc i ≡ suc j + i = omega arith in
      rw (← e) (fields (suc i)))
      (λ i. let e : j + suc i ≡ suc j + i = omega arith in
      rw (← e) (entries (suc i))))

-- ---- one alignment after the other

module _ (L : LaidSchema) (fs : List Slot) (xs : List (Option Datum)) (known : AreKnown L fs xs) where
  next_alignment : (c : ℕ) (rest : List ℕ) → AreNext L fs xs (λ k f. from L (2 ^ c) f) rest
      → AreNext L fs xs (λ k f. from L (2 ^ (c + 1)) f) (slots_at L (2 ^ c) 0 fs xs ++ rest)
  next_alignment c rest h = next_retested L fs xs (λ k f. from L (2 ^ (c + 1)) f) (before L (2 ^ c) 0) _
      (λ k f x fk xk is. rw (not_first k)
      (sym (next_power c (inline_align L f.shape) (simple_aligned L f.shape (known.each k f x fk xk).0))))
      (from_slot L (2 ^ c) fs xs rest h 0 fs xs (λ i. let e : 0 + i ≡ i = omega arith in rw e refl)
      (λ i. let e : 0 + i ≡ i = omega arith in rw e refl))

  none_behind : AreNext L fs xs (λ k f. from L (2 ^ 0) f) []
  none_behind k f x fk xk is =
      let p = simple_aligned L f.shape (known.each k f x fk xk).0 in
      le-leb _ _ (rw p.is (pow_pos p.exponent))

  none_before : SameOfStored (λ k f. false) (λ k f. from L (2 ^ (8 + 1)) f) fs xs
  none_before k f x fk xk is =
      let under = under_all (inline_align L f.shape) (simple_aligned L f.shape (known.each k f x fk xk).0) in
      sym (out (inline_align L f.shape) under)
    where
      out : (n : ℕ) → n < 512 → nat_le 512 n ≡ false
      out n under = grind (arith, nat_tests)

  pub slots_ordered : AreNext L fs xs (λ k f. false) (laying_order L fs xs)
  slots_ordered = next_retested L fs xs (λ k f. false) (λ k f. from L (2 ^ (8 + 1)) f) _ none_before
      (next_alignment 8 _ (next_alignment 7 _ (next_alignment 6 _ (next_alignment 5 _ (next_alignment 4 _
      (next_alignment 3 _ (next_alignment 2 _ (next_alignment 1 _ (next_alignment 0 [] none_behind)))))))))
