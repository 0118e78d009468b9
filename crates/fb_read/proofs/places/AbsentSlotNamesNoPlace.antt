-- An absent slot names no place.
use Rattle.std.proofs.Common.{not, ◌==◌, ◌≡◌, ℕ, ◌+◌, ◌-◌, List, Bool, true, false, Option, None, Some, ◌&&◌, cond}
use Rattle.std.proofs.Common.{refl}
use Rattle.fb_layout.specs.Laid.{LaidSchema, Slot, scalar_kind, struct_kind, table_kind, union_kind, code_kind}
use Rattle.fb_layout.specs.Laid.{text_kind, StoredShape, one_of, vector_of, member_by_code}
use Rattle.fb_value.specs.Num.{Bytes}
use Rattle.fb_value.specs.Places.{unknown_place, Place, named_slot, named_union, code_at, slot_number}
use Rattle.fb_value.specs.Nth.{slot_place}

-- an absent slot names no place
pub unset_place : (L : LaidSchema) (b : Bytes) (p k : ℕ) (fs : List Slot) (f : Slot) → slot_number b p k ≡ 0
    → slot_place L b p k fs f ≡ None
unset_place L b p k fs f none = by_use f.deprecated
  where
    by_member : (c : ℕ) (o : Option ℕ) → named_union b p k c o ≡ None
    by_member c None = rw none (by_code (not (c == 0)))
      where
        by_code : (t : Bool) → cond {A = Option Place} (t && false)
            (Some (record { sort = unknown_place c; at = p + 0 })) None ≡ None
        by_code true = refl
        by_code false = refl
    by_member c (Some t) = rw none refl

    by_shape : (shape : StoredShape) → named_slot L b p k fs shape ≡ None
    by_shape (vector_of kind) = rw none refl
    by_shape (one_of (union_kind u)) = by_member (code_at b p (k - 1)) (member_by_code L u (code_at b p (k - 1)))
    by_shape (one_of (scalar_kind base)) = rw none refl
    by_shape (one_of (struct_kind s)) = rw none refl
    by_shape (one_of (table_kind t)) = rw none refl
    by_shape (one_of (code_kind u)) = rw none refl
    by_shape (one_of text_kind) = rw none refl

    by_use : (deprecated : Bool) → cond {A = Option Place} deprecated None (named_slot L b p k fs f.shape) ≡ None
    by_use true = refl
    by_use false = by_shape f.shape
