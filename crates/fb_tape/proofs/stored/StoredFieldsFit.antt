-- What a table stores takes no more than its slots that are in use.
use Rattle.std.proofs.Common.{◌≡◌, ℕ, suc, ◌≤◌, Bool, true, false, if◌then◌else◌, List, [], ◌∷◌, sum_by, slice_get}
use Rattle.std.proofs.Common.{Option, None, Some, refl, arith}
use Rattle.std.proofs.lemmas.List.Sums.{sum_by-cons}
use Rattle.fb_layout.specs.Laid.{LaidSchema, Slot, StoredShape, one_of, vector_of, slots_of}
use Rattle.fb_layout.specs.Sizes.{IsAlignment}
use Rattle.fb_layout.specs.WellMade.{IsWellMade}
use Rattle.fb_layout.specs.Widths.{inline_size, inline_align}
use Rattle.fb_layout.proofs.sizes.AlignmentsArePowersOfTwo.{kind_aligned, four_aligned}
use Rattle.fb_value.specs.Datum.{Datum}
use Rattle.fb_tape.specs.OpenFields.{OpenField, IsOpenTable}
use Rattle.fb_tape.specs.StoredFields.{IsSimple, StoredFits, stored_in, fields_size}
use Rattle.fb_tape.specs.Defaults.{is_stored}
use Rattle.fb_tape.specs.StoredTables.{AreStored}

-- what is stored isn't deprecated
pub in_use : (L : LaidSchema) (f : Slot) (x : Option Datum) → StoredFits L f x → is_stored f x ≡ true
    → f.deprecated ≡ false
in_use L f None fits is = cc
in_use L f (Some d) fits is = fits.0

one_fits : (L : LaidSchema) (f : Slot) (x : Option Datum) → StoredFits L f x → (t : Bool) → is_stored f x ≡ t
    → (if t then inline_size L f.shape else 0) ≤ (if f.deprecated then 0 else inline_size L f.shape)
one_fits L f x fits true is = rw (in_use L f x fits is) (omega arith)
one_fits L f x fits false out = omega arith

pub fields_fit : (L : LaidSchema) (fs : List Slot) (xs : List (Option Datum))
    → ((k : ℕ) (f : Slot) (x : Option Datum) → slice_get fs k ≡ Some f → slice_get xs k ≡ Some x
    → IsSimple L f.shape × StoredFits L f x)
    → fields_size L fs xs ≤ sum_by (λ f. if f.deprecated then 0 else inline_size L f.shape) fs
fields_fit L [] xs each = omega arith
fields_fit L (f ∷ fs) [] each = omega arith
fields_fit L (f ∷ fs) (x ∷ xs) each =
    let one = one_fits L f x (each 0 f x refl refl).1 (is_stored f x) refl in
    let rest = fields_fit L fs xs (λ k g y a b. each (suc k) g y a b) in
    let sum = sum_by-cons (λ g. if g.deprecated then 0 else inline_size L g.shape) f fs in
    omega (arith, one, rest, sum)

shape_aligned : (L : LaidSchema) → IsWellMade L → (shape : StoredShape) → IsAlignment (inline_align L shape)
shape_aligned L made (one_of kind) = kind_aligned L made kind
shape_aligned L made (vector_of kind) = four_aligned

pub open_stored : (L : LaidSchema) (t : ℕ) (opens : List OpenField) (xs : List (Option Datum)) → IsWellMade L
    → IsOpenTable L t opens xs → AreStored L (slots_of L t) (stored_in (slots_of L t) xs) opens
open_stored L t opens xs made h =
    let fit = fields_fit L (slots_of L t) (stored_in (slots_of L t) xs) h.known.each in
    record {
      are = h.stored;
      aligned = λ k f x fk xk is. shape_aligned L made f.shape;
      small = omega (arith, fit, (made.tables t).wide);
      few = (made.tables t).few;
    }
