-- The rooms of vectors and tables by their parts.
use Rattle.std.proofs.Common.{◌≡◌, ◌≤◌, ◌+◌, ℕ, zero, suc, min, List, [], ◌∷◌, length, map, drop, Option}
use Rattle.std.proofs.Common.{Vec, Global, refl, sym, ◌∙◌, arith}
use Rattle.std.proofs.Math.Seq.{drop-nil}
use Rattle.fb_schema.specs.declared.types.FieldInfo.{FieldInfo}
use Rattle.fb_schema.specs.declared.kinds.TypeId.{TypeId}
use Rattle.fb_schema.specs.declared.kinds.Kind.{Kind}
use Rattle.fb_schema.specs.declared.kinds.Shape.{Shape}
use Rattle.fb_schema.specs.declared.kinds.Shape.TheVariants.{Many}
use Rattle.fb_schema.specs.Schema.{slots_in, body_at}
use Rattle.fb_schema.specs.Seen.{field_seen}
use Rattle.fb_layout.specs.Laid.{LaidSchema, Slot, slot_of, StoredShape, stored_shape, stored_kind}
use Rattle.fb_value.specs.Datum.{no_entries, count}
use Rattle.fb_value.specs.View.{view, parts_view, entries_view}
use Rattle.fb_value.specs.Room.{table_room, vector_room, room, parts_room, entries_room}
use Rattle.fb_value.specs.declared.values.Value.{Value, Items, Fields}
use Rattle.fb_value.proofs.types.EachVariantHasItsView.{view-Items, view-Fields, count-parts_view}

-- the slots of some fields
abbrev pub slots_seen : LaidSchema → List FieldInfo → List Slot
slots_seen L fs = map (slot_of L.schema) (map field_seen fs)

no_room : (L : LaidSchema) (fs : List Slot) → entries_room L fs no_entries ≡ 0
no_room L [] = refl
no_room L (f ∷ fs) = refl

-- nothing is left
pub room_end : (L : LaidSchema) (fs : List FieldInfo) (es : List (Option Value)) (i : ℕ)
    → min (length fs) (length es) ≤ i → entries_room L (slots_seen L (drop i fs)) (entries_view (drop i es)) ≡ 0
room_end L [] es i h = rw (drop-nil {A = FieldInfo} i) refl
room_end L (f ∷ fs) [] i h = rw (drop-nil {A = Option Value} i) (no_room L (slots_seen L (drop i (f ∷ fs))))
room_end L (f ∷ fs) (e ∷ es) zero h = absurd (omega arith)
room_end L (f ∷ fs) (e ∷ es) (suc i) h = room_end L fs es i (omega arith)

-- the room of a vector
pub vector_known : (L : LaidSchema) (shape : Shape) (kind : Kind) (value : Value) (v : Vec Value Global) (n : ℕ)
    → shape ≡ Many kind → value ≡ Items v → n ≡ length v.items
    → room L (stored_shape L.schema shape) (view value) ≡ vector_room L (stored_kind L.schema kind) n
    + parts_room L (stored_kind L.schema kind) (parts_view v.items)
vector_known L shape kind value v n is_many is_items long_v =
    let long : n ≡ count (parts_view v.items) = long_v ∙ sym (count-parts_view v.items) in
    rw (is_many, is_items, view-Items v, long) refl

-- the room of a table
pub table_known : (L : LaidSchema) (shape : StoredShape) (value : Value) (owner : TypeId)
    (v : Vec (Option Value) Global) (fs : List FieldInfo) → value ≡ Fields owner v
    → map field_seen fs ≡ slots_in (body_at L.schema owner.0)
    → room L shape (view value) ≡ table_room L owner.0 + entries_room L (slots_seen L fs) (entries_view v.items)
table_known L shape value owner v fs is_fields seen = rw (is_fields, view-Fields owner v, seen) refl
