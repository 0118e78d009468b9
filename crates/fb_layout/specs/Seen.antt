-- What the fields of a schema are under a layout, whatever memory they lie in.
use Rattle.std.specs.Prelude.{List, map}
use Rattle.fb_schema.specs.declared.kinds.Kind.{Kind}
use Rattle.fb_schema.specs.declared.kinds.Shape.{Shape}
use Rattle.fb_schema.specs.declared.types.FieldInfo.{FieldInfo}
use Rattle.fb_schema.specs.Seen.{field_seen}
use Rattle.fb_layout.specs.Laid.{LaidSchema, Slot, slot_of, StoredKind, stored_kind, StoredShape, stored_shape, kinds_of}

abbrev pub shape_seen : LaidSchema → Shape → StoredShape
shape_seen L shape = stored_shape L.schema shape

abbrev pub kind_seen : LaidSchema → Kind → StoredKind
kind_seen L kind = stored_kind L.schema kind

abbrev pub slot_seen : LaidSchema → FieldInfo → Slot
slot_seen L f = slot_of L.schema (field_seen f)

-- the slots of some fields
abbrev pub slots_seen : LaidSchema → List FieldInfo → List Slot
slots_seen L fs = map (slot_of L.schema) (map field_seen fs)

-- the kinds of a struct's fields
abbrev pub kinds_seen : LaidSchema → List FieldInfo → List StoredKind
kinds_seen L fields = kinds_of L.schema (map field_seen fields)
