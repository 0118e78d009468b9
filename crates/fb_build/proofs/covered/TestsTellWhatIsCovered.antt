-- What a covered buffer asks of its parts, told by tests that can be computed.
use Rattle.std.specs.Prelude.{ℕ, zero, suc, ◌≡◌, ◌≢◌, ◌+◌, ◌-◌, Bool, not, ◌&&◌, ◌||◌, ◌==◌, List, [], ◌∷◌, nat_lt}
use Rattle.std.specs.Prelude.{true, false, Some, slice_get, refl}
use Rattle.std.proofs.Common.{◌⊎◌, inl, inr, ap, sym, ◌∙◌, arith}
use Rattle.std.proofs.lemmas.Bool.{false≢true, and_parts, or_cases, eq-eqb, eqb-true}
use Rattle.fb_layout.specs.Laid.{LaidSchema, Slot, union_kind, one_of, slots_of, parts_of, struct_at}
use Rattle.fb_value.specs.Num.{Bytes, num}
use Rattle.fb_value.specs.Places.{vtable, is_present, code_at}
use Rattle.fb_value.specs.Rules.{is_union}
use Rattle.fb_build.specs.Stored.{stored_of, is_in_field, PadsTableWithZeros, CodesItsMembers}
use Rattle.fb_tape.specs.InlineBytes.{is_in_part, PadsStructWithZeros}
use Rattle.fb_tape.specs.Taken.{are_zero_unless}
use Rattle.fb_build.specs.Pieces.{is_among}
use Rattle.fb_build.specs.Covered.{vtable_at, EqualVtablesAreOne}
use Rattle.fb_build.proofs.covered.ZeroOutsideIsComputed.{zero_by_test}

either : (b : Bytes) (n m : ℕ) (ms : List ℕ) → is_among n (m ∷ ms) ≡ true → (n ≡ m) ⊎ (is_among n ms ≡ true)
either b n m ms h = elim (or_cases (n == m) (is_among n ms) h) [ inl e ↦ inl (eqb-true n m e) | inr more ↦ inr more ]

only : (n m : ℕ) → is_among n (m ∷ []) ≡ true → n ≡ m
only n m h = elim (or_cases (n == m) false h) [ inl e ↦ eqb-true n m e | inr no_more ↦ absurd (false≢true no_more) ]

-- there is one vtable, though several tables may have it
pub one_vtable : (b : Bytes) (q : ℕ) → EqualVtablesAreOne b (q ∷ [])
one_vtable b q n m here there same = only n q here ∙ sym (only m q there)

pub three_tables : (b : Bytes) (q : ℕ) → EqualVtablesAreOne b (q ∷ q ∷ q ∷ [])
three_tables b q n m here there same = all n here ∙ sym (all m there)
  where
    all : (k : ℕ) → is_among k (q ∷ q ∷ q ∷ []) ≡ true → k ≡ q
    all k h = elim (either b k q (q ∷ q ∷ []) h) [
      | inl e ↦ e
      | inr more ↦ elim (either b k q (q ∷ []) more) [ inl e ↦ e | inr last ↦ only k q last ]
    ]

-- two vtables that differ
pub two_vtables : (b : Bytes) (q r : ℕ) → (vtable_at b q ≡ vtable_at b r → ⊥) → EqualVtablesAreOne b (q ∷ r ∷ [])
two_vtables b q r differ n m here there same = by_cases (either b n q (r ∷ []) here) (either b m q (r ∷ []) there)
  where
    by_cases : (n ≡ q) ⊎ (is_among n (r ∷ []) ≡ true) → (m ≡ q) ⊎ (is_among m (r ∷ []) ≡ true) → n ≡ m
    by_cases (inl e) (inl h) = e ∙ sym h
    by_cases (inr e) (inr h) = only n r e ∙ sym (only m r h)
    by_cases (inl e) (inr h) = absurd (differ (ap (vtable_at b) (sym e) ∙ same ∙ ap (vtable_at b) (only m r h)))
    by_cases (inr e) (inl h) = absurd (differ (ap (vtable_at b) (sym h) ∙ sym same ∙ ap (vtable_at b) (only n r e)))

-- a table's rest, computed
pub table_padded : (L : LaidSchema) (b : Bytes) (t p : ℕ)
    → are_zero_unless (λ i. nat_lt i 4 || is_in_field L (stored_of L b t p) i) b p (num b (vtable b p + 2) 2) ≡ true
    → PadsTableWithZeros L b t p
table_padded L b t p h = zero_by_test (λ i. nat_lt i 4 || is_in_field L (stored_of L b t p) i) b p
    (num b (vtable b p + 2) 2) h

-- whether the values of unions that are stored, from slot k on, are behind a code other than 0
abbrev pub are_coded : Bytes → ℕ → ℕ → List Slot → Bool
are_coded b p k [] = true
are_coded b p k (f ∷ fs) = not (is_union f.shape && (is_present b p k && (code_at b p (k - 1) == 0)))
    && are_coded b p (suc k) fs

coded_by_test : (b : Bytes) (p j : ℕ) (fs : List Slot) → are_coded b p j fs ≡ true → (k : ℕ) (f : Slot) (u : ℕ)
    → slice_get fs k ≡ Some f → f.shape ≡ one_of (union_kind u) → is_present b p (j + k) ≡ true
    → code_at b p ((j + k) - 1) ≢ 0
coded_by_test b p j [] h k f u fk is there none = cc
coded_by_test b p j (g ∷ fs) h zero f u fk is there none =
    let same : g ≡ f = cc in
    let at : j + 0 ≡ j = omega arith in
    let own : not (is_union g.shape && (is_present b p j && (code_at b p (j - 1) == 0))) ≡ true = (and_parts _ _ h).0 in
    let union : is_union g.shape ≡ true = rw (same, is) refl in
    let test : not (true && (true && true)) ≡ true = rw (union, rw at at there, eq-eqb _ _ (rw at at none)) at own in
    cc
coded_by_test b p j (g ∷ fs) h (suc k) f u fk is there none =
    let at : j + suc k ≡ suc j + k = omega arith in
    coded_by_test b p (suc j) fs (and_parts _ _ h).1 k f u fk is (rw at at there) (rw at at none)

-- a table's unions, computed
pub table_coded : (L : LaidSchema) (b : Bytes) (t p : ℕ) → are_coded b p 0 (slots_of L t) ≡ true
    → CodesItsMembers L b t p
table_coded L b t p h k f u fk is there =
    let none : 0 + k ≡ k = omega arith in
    rw (← none) (coded_by_test b p 0 (slots_of L t) h k f u fk is (rw none there))

-- a struct's rest, computed
pub struct_padded : (L : LaidSchema) (b : Bytes) (s p : ℕ)
    → are_zero_unless (is_in_part L (parts_of L s) (struct_at L s).offsets) b p (struct_at L s).size ≡ true
    → PadsStructWithZeros L b s p
struct_padded L b s p h = zero_by_test (is_in_part L (parts_of L s) (struct_at L s).offsets) b p (struct_at L s).size h
