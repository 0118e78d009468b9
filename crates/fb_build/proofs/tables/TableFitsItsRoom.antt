-- The room of a table is enough for what is laid.
use Rattle.std.proofs.Common.{◌≡◌, ℕ, suc, ◌+◌, ◌*◌, ◌≤◌, Bool, true, false, if◌then◌else◌, max, List, [], ◌∷◌, length}
use Rattle.std.proofs.Common.{map, slice_get, Option, Some, refl, arith}
use Rattle.fb_schema.specs.Alignments.{greatest_in}
use Rattle.fb_layout.specs.Laid.{LaidSchema, Slot, slots_of}
use Rattle.fb_layout.specs.Sizes.{ceil4, IsAlignment}
use Rattle.fb_layout.specs.Widths.{inline_align, widest, greatest}
use Rattle.fb_value.specs.Datum.{Datum}
use Rattle.fb_value.specs.Room.{table_room}
pub use Rattle.fb_tape.proofs.stored.StoredFieldsFit.{fields_fit}
use Rattle.fb_tape.proofs.stored.StoredFieldsFit.{in_use}
use Rattle.fb_build.specs.Fields.{IsSimple, StoredFits, is_stored, AreKnown, fields_size, stored_align, stored_room}
use Rattle.fb_build.proofs.fields.AlignmentDividesTheSize.{simple_aligned}
use Rattle.fb_layout.proofs.sizes.AlignmentsArePowersOfTwo.{max_aligned}

-- ---- one slot

one_aligned : (L : LaidSchema) (f : Slot) (x : Option Datum) → StoredFits L f x → (t : Bool) → is_stored f x ≡ t
    → (if t then inline_align L f.shape else 0) ≤ (if f.deprecated then 4 else inline_align L f.shape)
one_aligned L f x fits true is = rw (in_use L f x fits is) (omega arith)
one_aligned L f x fits false out = omega arith

-- ---- all slots

aligns_fit : (L : LaidSchema) (fs : List Slot) (xs : List (Option Datum))
    → ((k : ℕ) (f : Slot) (x : Option Datum) → slice_get fs k ≡ Some f → slice_get xs k ≡ Some x
    → IsSimple L f.shape × StoredFits L f x)
    → stored_align L fs xs ≤ greatest_in (map (λ f. if f.deprecated then 4 else inline_align L f.shape) fs)
aligns_fit L [] xs each = omega arith
aligns_fit L (f ∷ fs) [] each = omega arith
aligns_fit L (f ∷ fs) (x ∷ xs) each =
    let one = one_aligned L f x (each 0 f x refl refl).1 (is_stored f x) refl in
    let rest = aligns_fit L fs xs (λ k g y a b. each (suc k) g y a b) in
    omega (arith, one, rest)

-- what is padded, the fields, the number and the vtable
pub table_fits_room : (L : LaidSchema) (t : ℕ) (xs : List (Option Datum)) → AreKnown L (slots_of L t) xs
    → (stored_room L (slots_of L t) xs + (ceil4 (fields_size L (slots_of L t) xs) + (8 + 2 * length (slots_of L t)))
    ≤ table_room L t + fields_size L (slots_of L t) xs)
table_fits_room L t xs known =
    let sizes = fields_fit L (slots_of L t) xs known.each in
    let aligns = aligns_fit L (slots_of L t) xs known.each in
    omega (arith, sizes, aligns)

pub fields_narrow : (L : LaidSchema) (t : ℕ) (xs : List (Option Datum)) → AreKnown L (slots_of L t) xs
    → widest L t ≤ 65535 → fields_size L (slots_of L t) xs ≤ 65528
fields_narrow L t xs known narrow = omega (arith, fields_fit L (slots_of L t) xs known.each, narrow)

-- ---- the alignment of a table's begin

max_one : (L : LaidSchema) (m : ℕ) (f : Slot) (x : Option Datum) → IsAlignment m → IsSimple L f.shape → (t : Bool)
    → IsAlignment (max m (if t then inline_align L f.shape else 0))
max_one L m f x pm simple true = max_aligned m (inline_align L f.shape) pm (simple_aligned L f.shape simple)
max_one L m f x pm simple false = let same : max m 0 ≡ m = omega arith in rw same pm

pub stored_aligned : (L : LaidSchema) (m : ℕ) (fs : List Slot) (xs : List (Option Datum)) → IsAlignment m
    → ((k : ℕ) (f : Slot) (x : Option Datum) → slice_get fs k ≡ Some f → slice_get xs k ≡ Some x
    → IsSimple L f.shape × StoredFits L f x) → IsAlignment (max m (stored_align L fs xs))
stored_aligned L m [] xs pm each = let same : max m 0 ≡ m = omega arith in rw same pm
stored_aligned L m (f ∷ fs) [] pm each = let same : max m 0 ≡ m = omega arith in rw same pm
stored_aligned L m (f ∷ fs) (x ∷ xs) pm each =
    let own = max_one L m f x pm (each 0 f x refl refl).0 (is_stored f x) in
    let rest = stored_aligned L (max m (if is_stored f x then inline_align L f.shape else 0)) fs xs own
    (λ k g y a b. each (suc k) g y a b) in
    let same : max m (max (if is_stored f x then inline_align L f.shape else 0) (stored_align L fs xs))
    ≡ max (max m (if is_stored f x then inline_align L f.shape else 0)) (stored_align L fs xs) = omega arith in
    rw same rest

one_low : (L : LaidSchema) (f : Slot) → inline_align L f.shape ≤ greatest L → (t : Bool)
    → (if t then inline_align L f.shape else 0) ≤ greatest L
one_low L f low true = low
one_low L f low false = omega arith

pub stored_low : (L : LaidSchema) (fs : List Slot) (xs : List (Option Datum))
    → ((k : ℕ) (f : Slot) → slice_get fs k ≡ Some f → inline_align L f.shape ≤ greatest L)
    → stored_align L fs xs ≤ greatest L
stored_low L [] xs low = omega arith
stored_low L (f ∷ fs) [] low = omega arith
stored_low L (f ∷ fs) (x ∷ xs) low =
    let own = one_low L f (low 0 f refl) (is_stored f x) in
    let rest = stored_low L fs xs (λ k g e. low (suc k) g e) in
    omega (arith, own, rest)
