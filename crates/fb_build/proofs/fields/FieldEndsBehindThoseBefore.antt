-- The end-count of a field: behind all that stands before it.
use Rattle.std.proofs.Common.{◌≡◌, ℕ, zero, suc, ◌+◌, ◌<◌, ◌⊎◌, inl, inr, Bool, true, false, ◌&&◌, cond}
use Rattle.std.proofs.Common.{nat_lt, nat_le, List, [], ◌∷◌, length, take, slice_get, slice_index, slice_set, Option}
use Rattle.std.proofs.Common.{Some, refl, ap, arith}
use Rattle.std.proofs.lemmas.List.{get_or-set_same, get_or-set_other}
use Rattle.std.proofs.lemmas.Bool.{lt-ltb, le-leb, eq-eqb, cases_eq}
use Rattle.fb_layout.specs.Laid.{LaidSchema, Slot}
use Rattle.fb_layout.specs.Widths.{inline_size, inline_align}
use Rattle.fb_value.specs.Datum.{Datum}
use Rattle.fb_build.specs.Fields.{is_stored, size_if_at, size_at, size_above, above, from}
use Rattle.fb_build.specs.FieldEnds.{stored_end}
use Rattle.fb_build.proofs.fields.SlotStoresItsEntry.{same_some, ltb_yes, ltb_out}

-- ---- the sizes of the slots before one

pub size_taken_next : (L : LaidSchema) (a k : ℕ) (fs : List Slot) (xs : List (Option Datum)) (f : Slot)
    (x : Option Datum) → slice_get fs k ≡ Some f → slice_get xs k ≡ Some x
    → size_at L a (take (suc k) fs) (take (suc k) xs) ≡ size_at L a (take k fs) (take k xs) + size_if_at L a f x
size_taken_next L a k [] xs f x fk xk = cc
size_taken_next L a k (g ∷ fs) [] f x fk xk = cc
size_taken_next L a zero (g ∷ fs) (y ∷ xs) f x fk xk =
    let f_is : g ≡ f = cc in
    let x_is : y ≡ x = cc in
    rw (f_is, x_is) (omega arith)
size_taken_next L a (suc k) (g ∷ fs) (y ∷ xs) f x fk xk = omega (arith, size_taken_next L a k fs xs f x fk xk)

-- ---- what holds of each slot's end-count

abbrev pub EachEnd : (ℕ → Slot → Option Datum → Bool → ℕ → Type 0) → (ℕ → Slot → Bool) → List Slot → List (Option Datum)
    → List ℕ → Type 0
EachEnd P test fs xs ends = (k : ℕ) (f : Slot) (x : Option Datum) → slice_get fs k ≡ Some f → slice_get xs k ≡ Some x
    → P k f x (is_stored f x && test k f) (slice_index ends k)

-- once slot k is passed, whose end-count alone may be another
pub end_passed :
    (P : ℕ → Slot → Option Datum → Bool → ℕ → Type 0) (L : LaidSchema) (a k e : ℕ) (fs : List Slot)
    (xs : List (Option Datum)) (ends others : List ℕ)
    (f0 : Slot) (x0 : Option Datum)
    → slice_index others k ≡ e → ((j : ℕ) → (j ≡ k → ⊥) → slice_index others j ≡ slice_index ends j)
    → slice_get fs k ≡ Some f0 → slice_get xs k ≡ Some x0 → P k f0 x0 (is_stored f0 x0 && from L a f0) e
    → EachEnd P (λ j f. cond (nat_lt j k) (from L a f) (above L a f)) fs xs ends
    → EachEnd P (λ j f. cond (nat_lt j (k + 1)) (from L a f) (above L a f)) fs xs others
end_passed P L a k e fs xs ends others f0 x0 own rest fk xk now before j f x fj xj = by_case (cases_eq j k)
  where
    test_same : (k : ℕ) → nat_lt k (k + 1) ≡ true
    test_same k = lt-ltb _ _ (omega arith)

    test_other : (j ≡ k → ⊥) → nat_lt j (k + 1) ≡ nat_lt j k
    test_other ne = by_test (nat_lt j k) refl (nat_lt j (k + 1)) refl
      where
        by_test : (t : Bool) → nat_lt j k ≡ t → (u : Bool) → nat_lt j (k + 1) ≡ u → u ≡ t
        by_test true a true b = refl
        by_test false a false b = refl
        by_test true a false b = absurd (omega (arith, ltb_yes j k a, ltb_out j (k + 1) b))
        by_test false a true b = absurd (ne (omega (arith, ltb_out j k a, ltb_yes j (k + 1) b)))

    by_case : (j ≡ k) ⊎ (j ≡ k → ⊥)
        → P j f x (is_stored f x && cond (nat_lt j (k + 1)) (from L a f) (above L a f)) (slice_index others j)
    by_case (inl same) =
        let f_is : f ≡ f0 = same_some (slice_get fs k) f f0 (rw same at fj) fk in
        let x_is : x ≡ x0 = same_some (slice_get xs k) x x0 (rw same at xj) xk in
        rw same (rw (test_same k, own, f_is, x_is) now)
    by_case (inr ne) = rw (test_other ne, rest j ne) (before j f x fj xj)

-- where it is, and its end-count is put there
pub end_put :
    (P : ℕ → Slot → Option Datum → Bool → ℕ → Type 0) (L : LaidSchema) (a k e : ℕ) (fs : List Slot)
    (xs : List (Option Datum)) (ends : List ℕ) (f : Slot)
    (x : Option Datum) → k < length ends → slice_get fs k ≡ Some f → slice_get xs k ≡ Some x
    → is_stored f x ≡ true → inline_align L f.shape ≡ a → P k f x true e
    → EachEnd P (λ j f. cond (nat_lt j k) (from L a f) (above L a f)) fs xs ends
    → EachEnd P (λ j f. cond (nat_lt j (k + 1)) (from L a f) (above L a f)) fs xs (slice_set ends k e)
end_put P L a k e fs xs ends f x under fk xk is at now before =
    let yes : nat_le a (inline_align L f.shape) ≡ true = rw at (le-leb _ _ (omega arith)) in
    let test : (is_stored f x && from L a f) ≡ true = rw (is, yes) refl in
    end_passed P L a k e fs xs ends (slice_set ends k e) f x (get_or-set_same ends k e 0 under)
    (λ j ne. get_or-set_other ends k j e 0 ne) fk xk (rw test now) before

-- the same under another test that says the same of what is stored
pub end_retested : (P : ℕ → Slot → Option Datum → Bool → ℕ → Type 0)
    (t u : ℕ → Slot → Bool) (fs : List Slot) (xs : List (Option Datum)) (ends : List ℕ)
    → ((k : ℕ) (f : Slot) (x : Option Datum) → slice_get fs k ≡ Some f → slice_get xs k ≡ Some x → is_stored f x ≡ true
    → t k f ≡ u k f)
    → EachEnd P t fs xs ends → EachEnd P u fs xs ends
end_retested P t u fs xs ends same h k f x fk xk =
    rw (← (both (is_stored f x) refl)) (h k f x fk xk)
  where
    both : (s : Bool) → is_stored f x ≡ s → (is_stored f x && t k f) ≡ (is_stored f x && u k f)
    both true is = ap (λ (b : Bool). is_stored f x && b) (same k f x fk xk is)
    both false out = rw out refl

-- the two kinds of end-counts
abbrev pub Counted : LaidSchema → ℕ → List Slot → List (Option Datum) → ℕ → Slot → Option Datum → Bool → ℕ → Type 0
Counted L base fs xs k f x test e = test ≡ true → e ≡ base + stored_end L fs xs k f

-- the end-count of the slot that a pass is at
pub own_end : (L : LaidSchema) (a k : ℕ) (fs : List Slot) (xs : List (Option Datum)) (f : Slot) (x : Option Datum)
    → slice_get fs k ≡ Some f → slice_get xs k ≡ Some x → is_stored f x ≡ true → inline_align L f.shape ≡ a
    → stored_end L fs xs k f ≡ size_above L a fs xs + (size_at L a (take k fs) (take k xs) + inline_size L f.shape)
own_end L a k fs xs f x fk xk is at =
    let next = size_taken_next L a k fs xs f x fk xk in
    let own : size_if_at L a f x ≡ inline_size L f.shape = rw (is, at, eq-eqb a a refl) refl in
    rw at (omega (arith, next, own))
