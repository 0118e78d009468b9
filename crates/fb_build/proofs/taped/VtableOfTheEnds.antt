-- The vtable that is told by what a table stores is that of its slots' end-counts.
use Rattle.std.proofs.Common.{◌≡◌, ℕ, zero, suc, ◌+◌, ◌-◌, ◌*◌, ◌<◌, ◌≤◌, ◌++◌, Bool, true, false, ◌&&◌}
use Rattle.std.proofs.Common.{if◌then◌else◌, List, [], ◌∷◌}
use Rattle.std.proofs.Common.{length, map, flat_map, slice_get, slice_index, Option, Some, refl, ap, sym, ◌∙◌}
use Rattle.std.proofs.Common.{arith}
use Rattle.byteorder.specs.Endian.{little_bytes}
use Rattle.fb_layout.specs.Laid.{LaidSchema, Slot}
use Rattle.fb_value.specs.Datum.{Datum}
use Rattle.fb_value.specs.Num.{Bytes}
use Rattle.fb_tape.specs.Vtables.{stored_end, table_size, field_offset, offsets_from, trimmed, vtable_of}
use Rattle.fb_build.specs.FieldEnds.{AreCounted}
use Rattle.fb_build.specs.Fields.{is_stored, EntryEnd, EntriesEnd}
use Rattle.fb_build.specs.TableBytes.{offset_from, offset_bytes, vtable_bytes}
use Rattle.fb_tape.proofs.stored.OffsetsAreTrimmed.{none_trimmed}
use Rattle.fb_tape.proofs.stored.OffsetsAreTrimmed.{zero_trimmed}

-- ---- the offsets

offset_zero : (place e z w start : ℕ) → e ≡ start + w → 0 < e → place ≡ start + z → offset_from place e ≡ z - w
offset_zero place zero z w start is some all = absurd (omega (arith, some))
offset_zero place (suc e) z w start is some all = omega (arith, is, all)

high_end : (L : LaidSchema) (low m : ℕ) (s : Bytes) (f : Slot) (x : Option Datum) (e : ℕ)
    → EntryEnd L low m s true f x e → is_stored f x ≡ true → low < e
high_end L low m s f x e h is = by_entry x (h.stored is)
  where
    by_entry : (y : Option Datum) → Rattle.fb_build.specs.Fields.StoredEnd L low m s true f y e → low < e
    by_entry (Rattle.std.proofs.Common.None) h = absurd h
    by_entry (Some d) h = h.0

module _ (L : LaidSchema) (fs : List Slot) (xs : List (Option Datum)) (start place m : ℕ) (s : Bytes)
    (ends : List ℕ) (place_is : place ≡ start + table_size L fs xs)
    (state : EntriesEnd L start m s (λ k f. true) fs xs ends) (counted : AreCounted L start (λ k f. true) fs xs
    ends) where
  one_offset : (k : ℕ) (g : Slot) (y : Option Datum) (e : ℕ) → slice_get fs k ≡ Some g → slice_get xs k ≡ Some y
      → slice_index ends k ≡ e → field_offset L fs xs k g y ≡ offset_from place e
  one_offset k g y e fk xk at = by_test (is_stored g y) refl
    where
      now : EntryEnd L start m s true g y e
      now = rw at at (state k g y fk xk)

      by_test : (t : Bool) → is_stored g y ≡ t
          → (if t then table_size L fs xs - stored_end L fs xs k g else 0) ≡ offset_from place e
      by_test false out = rw (now.absent out) refl
      by_test true is =
          let high = high_end L start m s g y e now is in
          let passes : (is_stored g y && true) ≡ true = rw is refl in
          let count = counted k g y fk xk passes in
          sym (offset_zero place e (table_size L fs xs) (stored_end L fs xs k g) start (sym at ∙ count)
          (omega (arith, high)) place_is)

  all_offsets : (k : ℕ) (gs : List Slot) (ys : List (Option Datum)) (es : List ℕ)
      → ((i : ℕ) → slice_get gs i ≡ slice_get fs (k + i)) → ((i : ℕ) → slice_get ys i ≡ slice_get xs (k + i))
      → ((i : ℕ) → slice_index es i ≡ slice_index ends (k + i)) → length gs ≡ length ys → length es ≡ length gs
      → offsets_from L fs xs k gs ys ≡ map (offset_from place) es
  unfolding offsets_from
  all_offsets k [] ys [] fields entries at long each = refl
  all_offsets k [] ys (e ∷ es) fields entries at long each = absurd (omega (arith, each))
  all_offsets k (g ∷ gs) [] es fields entries at long each = absurd (omega (arith, long))
  all_offsets k (g ∷ gs) (y ∷ ys) [] fields entries at long each = absurd (omega (arith, each))
  all_offsets k (g ∷ gs) (y ∷ ys) (e ∷ es) fields entries at long each =
      let here : k + 0 ≡ k = omega arith in
      let f0 = rw here at (fields 0) in
      let x0 = rw here at (entries 0) in
      let e0 = rw here at (at 0) in
      let one = one_offset k g y e (sym f0) (sym x0) (sym e0) in
      let rest = all_offsets (suc k) gs ys es
      (λ i. let n : k + suc i ≡ suc k + i = omega arith in
      rw (← n) (fields (suc i)))
      (λ i. let n : k + suc i ≡ suc k + i = omega arith in
      rw (← n) (entries (suc i)))
      (λ i. let n : k + suc i ≡ suc k + i = omega arith in
      rw (← n) (at (suc i)))
      (omega (arith, long)) (omega (arith, each)) in
      rw (one, rest) refl

-- ---- without the zeros at their end

pub record IsTrimmed (place : ℕ) (es ts : List ℕ) : Type 0 where
  pub bytes : flat_map (little_bytes 2) ts ≡ offset_bytes place (length ts) es
  pub within : length ts ≤ length es
  pub rest : (k : ℕ) → length ts ≤ k → slice_index es k ≡ 0
  pub last : (k : ℕ) → k + 1 ≡ length ts → 0 < slice_index es k

more_trimmed : (n : ℕ) (os : List ℕ) → trimmed (suc n ∷ os) ≡ suc n ∷ trimmed os
more_trimmed n os = refl

offset_some : (place e : ℕ) → suc e < place → (n : ℕ) × (offset_from place (suc e) ≡ suc n)
offset_some place e low = (place - suc (suc e), omega (arith, low))

first_zero : (place : ℕ) (es os : List ℕ) (ts : List ℕ) → trimmed os ≡ ts → IsTrimmed place es ts
    → IsTrimmed place (0 ∷ es) (trimmed (0 ∷ os))
first_zero place es os [] is h = rw (none_trimmed os is) (record {
  bytes = refl;
  within = omega arith;
  rest = λ k low. by_slot k;
  last = λ k one. absurd (omega (arith, one));
})
  where
    by_slot : (k : ℕ) → slice_index (0 ∷ es) k ≡ 0
    by_slot zero = refl
    by_slot (suc k) = h.rest k (omega arith)
first_zero place es os (q ∷ qs) is h = rw (zero_trimmed os q qs is) (record {
  bytes = ap (λ z. little_bytes 2 0 ++ z) h.bytes;
  within = omega (arith, h.within);
  rest = λ k low. by_rest k low;
  last = λ k one. by_last k one;
})
  where
    by_rest : (k : ℕ) → suc (suc (length qs)) ≤ k → slice_index (0 ∷ es) k ≡ 0
    by_rest zero low = absurd (omega (arith, low))
    by_rest (suc k) low = h.rest k (omega (arith, low))

    by_last : (k : ℕ) → k + 1 ≡ suc (suc (length qs)) → 0 < slice_index (0 ∷ es) k
    by_last zero one = absurd (omega (arith, one))
    by_last (suc k) one = h.last k (omega (arith, one))

first_some : (place e o : ℕ) (es : List ℕ) (ts : List ℕ) → offset_from place (suc e) ≡ o
    → IsTrimmed place es ts → IsTrimmed place (suc e ∷ es) (o ∷ ts)
first_some place e o es ts is h = record {
  bytes = rw (sym is) (ap (λ z. little_bytes 2 (place - suc e) ++ z) h.bytes);
  within = omega (arith, h.within);
  rest = λ k low. by_rest k low;
  last = λ k one. by_last k one;
}
  where
    by_rest : (k : ℕ) → suc (length ts) ≤ k → slice_index (suc e ∷ es) k ≡ 0
    by_rest zero low = absurd (omega (arith, low))
    by_rest (suc k) low = h.rest k (omega (arith, low))

    by_last : (k : ℕ) → k + 1 ≡ suc (length ts) → 0 < slice_index (suc e ∷ es) k
    by_last zero one = omega arith
    by_last (suc k) one = h.last k (omega (arith, one))

pub trimmed_is : (place : ℕ) (es : List ℕ) → ((k : ℕ) → slice_index es k < place)
    → IsTrimmed place es (trimmed (map (offset_from place) es))
trimmed_is place [] low = record {
  bytes = refl;
  within = omega arith;
  rest = λ k over. refl;
  last = λ k one. absurd (omega (arith, one));
}
trimmed_is place (zero ∷ es) low =
    first_zero place es (map (offset_from place) es) (trimmed (map (offset_from place) es)) refl
    (trimmed_is place es (λ k. low (suc k)))
trimmed_is place (suc e ∷ es) low =
    let n = offset_some place e (low 0) in
    let more : trimmed (offset_from place (suc e) ∷ map (offset_from place) es)
    ≡ suc n.0 ∷ trimmed (map (offset_from place) es) =
    ap (λ o. trimmed (o ∷ map (offset_from place) es)) n.1 ∙ more_trimmed n.0 (map (offset_from place) es) in
    rw more (first_some place e (suc n.0) es (trimmed (map (offset_from place) es)) n.1
    (trimmed_is place es (λ k. low (suc k))))

-- ---- the whole vtable

-- how many slots it has
abbrev pub slots_used : LaidSchema → List Slot → List (Option Datum) → ℕ
slots_used L fs xs = length (trimmed (offsets_from L fs xs 0 fs xs))

pub record IsVtableOf (L : LaidSchema) (fs : List Slot) (xs : List (Option Datum)) (place : ℕ) (ends : List ℕ)
    (used : ℕ) : Type 0 where
  pub is : vtable_of L fs xs ≡ vtable_bytes place (table_size L fs xs) used ends
  pub within : used ≤ length ends
  pub rest : (k : ℕ) → used ≤ k → slice_index ends k ≡ 0
  pub last : (k : ℕ) → k + 1 ≡ used → 0 < slice_index ends k

pub vtable_told_by : (L : LaidSchema) (fs : List Slot) (xs : List (Option Datum)) (start place m : ℕ) (s : Bytes)
    (ends : List ℕ) → place ≡ start + table_size L fs xs → EntriesEnd L start m s (λ k f. true) fs xs ends
    → AreCounted L start (λ k f. true) fs xs ends → length fs ≡ length xs → length ends ≡ length fs
    → ((k : ℕ) → slice_index ends k < place) → IsVtableOf L fs xs place ends (slots_used L fs xs)
vtable_told_by L fs xs start place m s ends place_is state counted long each low =
    let offsets : offsets_from L fs xs 0 fs xs ≡ map (offset_from place) ends =
    all_offsets L fs xs start place m s ends place_is state counted 0 fs xs ends
    (λ i. let e : 0 + i ≡ i = omega arith in rw e refl) (λ i. let e : 0 + i ≡ i = omega arith in rw e refl)
    (λ i. let e : 0 + i ≡ i = omega arith in rw e refl) long each in
    let h = trimmed_is place ends low in
    let h2 : IsTrimmed place ends (trimmed (offsets_from L fs xs 0 fs xs)) =
    rw offsets h in
    record {
      is = ap (λ z. little_bytes 2 (4 + 2 * slots_used L fs xs) ++ (little_bytes 2 (table_size L fs xs) ++ z)) h2.bytes;
      within = h2.within;
      rest = h2.rest;
      last = h2.last;
    }
