-- The offsets up to the last slot that is stored.
use Rattle.std.proofs.Common.{◌≡◌, ◌≤◌, ◌<◌, ◌+◌, ◌-◌, ◌==◌, ◌&&◌, ℕ, zero, suc, true, false, Bool, if◌then◌else◌}
use Rattle.std.proofs.Common.{nat_lt, List, [], ◌∷◌, Option, Some, slice_get, slice_index, length, take, refl, arith}
use Rattle.std.proofs.lemmas.Bool.{eqb-true, ltb-true}
use Rattle.fb_layout.specs.Laid.{LaidSchema, Slot}
use Rattle.fb_layout.specs.Widths.{inline_align, inline_size}
use Rattle.fb_value.specs.Datum.{Datum}
use Rattle.fb_tape.specs.OpenFields.{OpenField, IsOpenIf, AreOpen}
use Rattle.fb_tape.specs.StoredFields.{size_at, size_above, fields_size}
use Rattle.fb_tape.specs.Defaults.{is_stored}
use Rattle.fb_tape.specs.Vtables.{stored_end, table_size, field_offset, offsets_from, trimmed}

pub none_trimmed : (os : List ℕ) → trimmed os ≡ [] → trimmed (0 ∷ os) ≡ []
none_trimmed os is = rw is refl

pub zero_trimmed : (os : List ℕ) (q : ℕ) (qs : List ℕ) → trimmed os ≡ q ∷ qs → trimmed (0 ∷ os) ≡ 0 ∷ (q ∷ qs)
zero_trimmed os q qs is = rw is refl

-- an offset is the same without the zeros behind it
pub trimmed_index : (os : List ℕ) (i : ℕ) → slice_index (trimmed os) i ≡ slice_index os i
trimmed_index [] i = refl
trimmed_index (suc n ∷ os) zero = refl
trimmed_index (suc n ∷ os) (suc i) = trimmed_index os i
trimmed_index (zero ∷ os) i = by_rest (trimmed os) refl i (λ j. trimmed_index os j)
  where
    by_rest : (ts : List ℕ) → trimmed os ≡ ts → (i : ℕ) → ((j : ℕ) → slice_index (trimmed os) j ≡ slice_index os j)
        → slice_index (trimmed (0 ∷ os)) i ≡ slice_index (0 ∷ os) i
    by_rest [] is zero same = rw (none_trimmed os is) refl
    by_rest [] is (suc j) same = rw (none_trimmed os is) (rw is at (same j))
    by_rest (q ∷ qs) is zero same = rw (zero_trimmed os q qs is) refl
    by_rest (q ∷ qs) is (suc j) same = rw (zero_trimmed os q qs is) (rw is at (same j))

-- ---- what a field ends at is within its table

take_at : (L : LaidSchema) (a k : ℕ) (fs : List Slot) (xs : List (Option Datum))
    → size_at L a (take k fs) (take k xs) ≤ size_at L a fs xs
take_at L a zero fs xs = omega arith
take_at L a (suc k) [] xs = omega arith
take_at L a (suc k) (f ∷ fs) [] = omega arith
take_at L a (suc k) (f ∷ fs) (x ∷ xs) = let rest = take_at L a k fs xs in omega (arith, rest)

one_fits : (a b n w above at all : ℕ) (t u v : Bool) → nat_lt a b ≡ u → (b == a) ≡ v → above + at ≤ all
    → ((if t && u then n else 0) + above) + ((if t && v then n else 0) + at) ≤ (if t then n else 0) + all
one_fits a b n w above at all false u v over same h = omega (arith, h)
one_fits a b n w above at all true true true over same h =
    absurd (omega (arith, ltb-true a b over, eqb-true b a same))
one_fits a b n w above at all true true false over same h = omega (arith, h)
one_fits a b n w above at all true false true over same h = omega (arith, h)
one_fits a b n w above at all true false false over same h = omega (arith, h)

both_fit : (L : LaidSchema) (a : ℕ) (fs : List Slot) (xs : List (Option Datum))
    → size_above L a fs xs + size_at L a fs xs ≤ fields_size L fs xs
both_fit L a [] xs = omega arith
both_fit L a (f ∷ fs) [] = omega arith
both_fit L a (f ∷ fs) (x ∷ xs) =
    one_fits a (inline_align L f.shape) (inline_size L f.shape) 0 (size_above L a fs xs) (size_at L a fs xs)
    (fields_size L fs xs) (is_stored f x) (nat_lt a (inline_align L f.shape)) (inline_align L f.shape == a) refl refl
    (both_fit L a fs xs)

pub end_fits : (L : LaidSchema) (k : ℕ) (f : Slot) (fs : List Slot) (xs : List (Option Datum))
    → stored_end L fs xs k f < table_size L fs xs
end_fits L k f fs xs = omega (
  arith,
  take_at L (inline_align L f.shape) (suc k) fs xs,
  both_fit L (inline_align L f.shape) fs xs,
)

-- ---- how many offsets there are

offset_some : (z e : ℕ) → e < z → (n : ℕ) × (z - e ≡ suc n)
offset_some z e low = (z - suc e, omega (arith, low))

-- Offsets of the slots from k on, of which open fields are those that are stored: up to the last of these.
pub record AreUsed (k : ℕ) (opens : List OpenField) (offsets : List ℕ) : Type 0 where
  pub none : opens ≡ [] → offsets ≡ []
  pub last : (m : ℕ) (x : OpenField) → length opens ≡ suc m → slice_get opens m ≡ Some x
      → k + length offsets ≡ suc x.slot
  pub low : (m : ℕ) (x : OpenField) → slice_get opens m ≡ Some x → (k ≤ x.slot) × (x.slot < k + length offsets)

none_used : (k : ℕ) → AreUsed k [] []
none_used k = record { none = λ e. refl; last = λ m x e at. cc; low = λ m x at. cc }

first_used : (k : ℕ) (o : OpenField) (behind : List OpenField) (n : ℕ) (offsets : List ℕ) → o.slot ≡ k
    → AreUsed (suc k) behind offsets → AreUsed k (o ∷ behind) (n ∷ offsets)
first_used k o behind n offsets is h = record {
  none = λ e. cc;
  last = λ m x long at. by_last m x long at behind refl;
  low = λ m x at. by_index m x at;
}
  where
    by_last : (m : ℕ) (x : OpenField) → suc (length behind) ≡ suc m → slice_get (o ∷ behind) m ≡ Some x
        → (xs : List OpenField) → behind ≡ xs → k + suc (length offsets) ≡ suc x.slot
    by_last zero x long at xs same =
        let x_is : o ≡ x = cc in
        let empty : behind ≡ [] = nothing behind (omega (arith, long)) in
        rw (h.none empty) (rw (← x_is) (omega (arith, is)))
      where
        nothing : (ys : List OpenField) → length ys ≡ 0 → ys ≡ []
        nothing [] e = refl
        nothing (y ∷ ys) e = absurd (omega (arith, e))
    by_last (suc m) x long at xs same = omega (arith, h.last m x (omega (arith, long)) at)

    by_index : (m : ℕ) (x : OpenField) → slice_get (o ∷ behind) m ≡ Some x
        → (k ≤ x.slot) × (x.slot < k + suc (length offsets))
    by_index zero x at = let x_is : o ≡ x = cc in rw (← x_is) (omega (arith, is), omega (arith, is))
    by_index (suc m) x at = let low = h.low m x at in (omega (arith, low.0), omega (arith, low.1))

-- a slot in front that isn't stored
zero_used : (k : ℕ) (opens : List OpenField) (os ts : List ℕ) → trimmed os ≡ ts → AreUsed (suc k) opens ts
    → AreUsed k opens (trimmed (0 ∷ os))
zero_used k opens os [] is h = rw (none_trimmed os is) (record {
  none = λ e. refl;
  last = λ m x long at. (let low = h.low m x at in absurd (omega (arith, low.0, low.1)));
  low = λ m x at. (let low = h.low m x at in absurd (omega (arith, low.0, low.1)));
})
zero_used k opens os (q ∷ qs) is h = rw (zero_trimmed os q qs is) (record {
  none = λ e. (let empty = h.none e in cc);
  last = λ m x long at. omega (arith, h.last m x long at);
  low = λ m x at. (let low = h.low m x at in (omega (arith, low.0), omega (arith, low.1)));
})

module _ (L : LaidSchema) (FS : List Slot) (XS : List (Option Datum)) where
  one_used : (k : ℕ) (f : Slot) (x : Option Datum) (fs : List Slot) (xs : List (Option Datum))
      (opens : List OpenField) → ((os : List OpenField) → AreOpen L (suc k) fs xs os
      → AreUsed (suc k) os (trimmed (offsets_from L FS XS (suc k) fs xs)))
      → (t : Bool) → is_stored f x ≡ t → IsOpenIf t L k f x opens (λ behind. AreOpen L (suc k) fs xs behind)
      → AreUsed k opens (trimmed (offsets_from L FS XS k (f ∷ fs) (x ∷ xs)))
  unfolding offsets_from
  one_used k f x fs xs opens again true stored h =
      let some = offset_some (table_size L FS XS) (stored_end L FS XS k f) (end_fits L k f FS XS) in
      rw (h.opens_are, stored, some.1)
      (first_used k h.field h.behind (suc some.0) _ h.slot_is (again h.behind h.rest))
  one_used k f x fs xs opens again false out h =
      rw out (zero_used k opens (offsets_from L FS XS (suc k) fs xs) _ refl (again opens h))

  pub all_used : (k : ℕ) (fs : List Slot) (xs : List (Option Datum)) (opens : List OpenField)
      → AreOpen L k fs xs opens → AreUsed k opens (trimmed (offsets_from L FS XS k fs xs))
  unfolding offsets_from
  all_used k [] xs opens h = rw h (none_used k)
  all_used k (f ∷ fs) [] opens h = rw h (none_used k)
  all_used k (f ∷ fs) (x ∷ xs) opens h =
      one_used k f x fs xs opens (λ os o. all_used (suc k) fs xs os o) (is_stored f x) refl h

  -- the offset of a slot
  pub offset_at : (k : ℕ) (fs : List Slot) (xs : List (Option Datum)) (i : ℕ) (f : Slot) (x : Option Datum)
      → slice_get fs i ≡ Some f → slice_get xs i ≡ Some x
      → slice_index (offsets_from L FS XS k fs xs) i ≡ field_offset L FS XS (k + i) f x
  unfolding offsets_from
  offset_at k [] xs i f x fi xi = cc
  offset_at k (g ∷ fs) [] i f x fi xi = cc
  offset_at k (g ∷ fs) (y ∷ xs) zero f x fi xi =
      let f_is : g ≡ f = cc in
      let x_is : y ≡ x = cc in
      let same : k + 0 ≡ k = omega arith in
      rw (← f_is) (rw (← x_is) (rw same refl))
  offset_at k (g ∷ fs) (y ∷ xs) (suc i) f x fi xi =
      let same : k + suc i ≡ suc k + i = omega arith in
      rw same (offset_at (suc k) fs xs i f x fi xi)

pub trimmed_short : (os : List ℕ) → length (trimmed os) ≤ length os
trimmed_short [] = omega arith
trimmed_short (suc n ∷ os) = let rest = trimmed_short os in omega (arith, rest)
trimmed_short (zero ∷ os) = by_rest (trimmed os) refl (trimmed_short os)
  where
    by_rest : (ts : List ℕ) → trimmed os ≡ ts → length (trimmed os) ≤ length os
        → length (trimmed (0 ∷ os)) ≤ suc (length os)
    by_rest [] is h = rw (none_trimmed os is) (omega arith)
    by_rest (q ∷ qs) is h = rw (zero_trimmed os q qs is) (omega (arith, rw is at h))
