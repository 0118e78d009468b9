-- What references name is inside of what is laid.
use Rattle.std.proofs.Common.{◌≡◌, ℕ, ◌≤◌, true, length, Option, None}
use Rattle.std.proofs.Common.{Some, refl}
use Rattle.fb_layout.specs.Laid.{LaidSchema, table_kind, union_kind}
use Rattle.fb_layout.specs.Laid.{text_kind, StoredShape, one_of, vector_of}
use Rattle.fb_value.specs.Datum.{Datum}
use Rattle.fb_value.specs.Num.{Bytes}
use Rattle.fb_value.specs.Places.{Target}
use Rattle.fb_build.specs.Fields.{is_reference, target_for, SlotFits}
use Rattle.fb_build.specs.Fields.{TargetEnd}
use Rattle.fb_build.specs.Made.{LeadsEnd, LeadsTo}
use Rattle.fb_build.proofs.fields.FieldHasItsValue.{IsReference, reference_known}

-- where a reference leads, whatever lies there
pub leads_any : (s : Bytes) (X : Option Target) (e target : ℕ) → LeadsEnd s e target → LeadsTo s X e target
leads_any s None e target h = tt
leads_any s (Some X) e target h = h

-- What is stored as a reference names a part.
pub reference_there : (L : LaidSchema) (shape : StoredShape) (d : Datum) → is_reference shape ≡ true
    → SlotFits L shape d → IsReference L shape d
reference_there L (one_of (table_kind t)) d is fits = reference_known L (one_of (table_kind t)) d refl refl fits
reference_there L (one_of (union_kind u)) d is fits = reference_known L (one_of (union_kind u)) d refl refl fits
reference_there L (one_of text_kind) d is fits = reference_known L (one_of text_kind) d refl refl fits
reference_there L (vector_of kind) d is fits = reference_known L (vector_of kind) d refl refl fits
reference_there L _ d is fits = cc

-- and that part's end-count is within what is laid
pub target_inside : (L : LaidSchema) (m : ℕ) (s : Bytes) (shape : StoredShape) (d : Datum) (e : ℕ)
    → is_reference shape ≡ true → SlotFits L shape d → TargetEnd L m s (target_for shape d) e d → e ≤ length s
target_inside L m s shape d e is fits h =
    let known = reference_there L shape d is fits in
    (rw known.named at h).lies.within
