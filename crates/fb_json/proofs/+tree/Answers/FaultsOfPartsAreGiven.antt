-- The fault of a part is the whole's, and what a part gives is what is computed.
use Rattle.std.proofs.Common.{◌≡◌, ◌∙◌, ap, ℕ, zero, suc, ◌<◌, ◌||◌, List, Bool, Option, Some, Ok, Err, map, refl, arith}
use Rattle.std.proofs.Common.{Bor}
use Rattle.std.proofs.lemmas.Result.{err_from_is_err_and}
use Rattle.serde_json.specs.Data.{Members, object}
use Rattle.serde_json.specs.View.{view as tree_view, members_view}
use Rattle.serde_json.specs.declared.value.Value.{Value as Json}
use Rattle.fb_schema.specs.Schema.{DeclaredField, body_at, parts_in as fields_of_struct}
use Rattle.fb_schema.specs.Seen.{field_seen}
use Rattle.fb_schema.specs.declared.kinds.Kind.{Kind}
use Rattle.fb_schema.specs.declared.kinds.Kind.TheVariants.{Struct}
use Rattle.fb_schema.specs.declared.kinds.Shape.{Shape}
use Rattle.fb_schema.specs.declared.kinds.Shape.TheVariants.{One}
use Rattle.fb_schema.specs.declared.kinds.TypeId.{TypeId}
use Rattle.fb_layout.specs.Laid.{LaidSchema}
use Rattle.fb_value.specs.Datum.{Datum, a_struct}
use Rattle.fb_value.specs.View.{parts_in, view}
use Rattle.fb_json.specs.declared.faults.Place.{Place}
use Rattle.fb_json.specs.declared.faults.JsonFault.{JsonFault}
use Rattle.fb_json.specs.FaultPaths.{front_of, rest_of, object_front, field_spot, tree_spot}
use Rattle.fb_json.specs.Meant.{Look, if_known, look, meant, names_known, parts_meant, struct_meant}
use Rattle.fb_json.specs.Meant.{table_meant, type_place}
use Rattle.fb_json.specs.SlotMembers.{looked_up}
use Rattle.fb_json.proofs.slots.OneSlotOrFieldMore.{fails_by}
use Rattle.fb_json.proofs.tree.TrailLeadsToTheFault.{here, fault_given}
use Rattle.fb_json.proofs.+tree.Goals as goal
use Rattle.fb_json.proofs.laws.EachStepOfABindSucceeds.{spends}

-- ---- numbers in structs

module _ (L : LaidSchema) (unknown : Bool) (found : Option (Bor Json)) (tree : Bor Json) (shape : Shape) (kind : Kind)
    (at : Place) (levels left : ℕ) (is : found ≡ Some tree) (one : shape ≡ One kind) where
  number_refused : (f : JsonFault) → front_of L unknown (tree_spot (tree_view tree.now) (One kind) at levels left)
      ≡ rest_of (meant L unknown (tree_view tree.now) (One kind) at levels left)
      → meant L unknown (tree_view tree.now) (One kind) at levels left ≡ Err f
      → front_of L unknown (field_spot (looked_up L unknown found) shape at levels left) ≡ Err f
  number_refused f front h = rw (is, one) (front ∙ ap rest_of h)

pub trail_to_refused_number : goal.structs::part-returns-in_err-number-clause-trail
trail_to_refused_number t c =
    let L = c.args.source.layout.now in
    let unknown = c.args.source.unknown in
    let fault = c.in_err-number.field-0.0 in
    let p = err_from_is_err_and c.from_residual.result c.from_residual.ensures.1 in
    let given = c.in-Some-number_of.ensures.gives c.args.room.levels c.args.room.left in
    rw (p.1, p.2) (λ kept. here L unknown (field_spot (looked_up L unknown c.args.tree) c.args.field.now.shape
    c.args.place c.args.room.levels c.args.room.left) fault c.args.trail.now
    (number_refused L unknown c.args.tree c.in-Some.tree c.args.field.now.shape c.in-One.kind c.args.place
    c.args.room.levels c.args.room.left c.in-Some.is c.in-One.is fault
    (c.in-Some-number_of.ensures.front c.args.room.levels c.args.room.left)
    (fault_given fault _ (rw c.in_err-number.was at given) kept)))

-- ---- structs

module _ (L : LaidSchema) (unknown : Bool) (ms : Members) (s : TypeId) (levels left : ℕ) where
  struct_unknown : (seen : Look) (f : JsonFault)
      → if_known (unknown || names_known (body_at L.schema s.0) ms) (type_place s.0) ≡ Err f
      → struct_meant L unknown ms seen s.0 levels left ≡ Err f
  unfolding struct_meant
  struct_unknown seen f h = rw h refl

  front_unknown : (at : Place) (f : JsonFault)
      → if_known (unknown || names_known (body_at L.schema s.0) ms) (type_place s.0) ≡ Err f
      → object_front L unknown ms (One (Struct s)) at levels left ≡ Err f
  unfolding object_front
  front_unknown at f h = rw h refl

  module _ (seen : Look) (fs : List DeclaredField) (are : fs ≡ fields_of_struct (body_at L.schema s.0))
      (all : if_known (unknown || names_known (body_at L.schema s.0) ms) (type_place s.0) ≡ Ok tt) where
    parts_refused : (f : JsonFault) → parts_meant seen s.0 fs 0 levels left ≡ Err f
        → struct_meant L unknown ms seen s.0 levels left ≡ Err f
    unfolding struct_meant
    parts_refused f h = rw (all, ← are, h) refl

    parts_given : (xs : List Datum) (rest : ℕ) → parts_meant seen s.0 fs 0 levels left ≡ Ok (xs, rest)
        → struct_meant L unknown ms seen s.0 levels left ≡ Ok (a_struct (parts_in xs), rest)
    unfolding struct_meant
    parts_given xs rest h = rw (all, ← are, h) refl

pub unknown_member_given : goal.structs::struct_of-returns-in_err-members_by_slot-clause-gives
unknown_member_given t c =
    let L = c.args.source.layout.now in
    let ms = members_view c.args.members.now.entries in
    let fault = c.in_err-members_by_slot.field-0.0 in
    let p = err_from_is_err_and c.from_residual.result c.from_residual.ensures.1 in
    rw (p.1, p.2) (fails_by fault _ _ (struct_unknown L c.args.source.unknown ms c.args.owner c.args.room.levels
    c.args.room.left (look L c.args.source.unknown ms) fault) c.in_err-members_by_slot.ensures.known)

pub trail_of_unknown_member : goal.structs::struct_of-returns-in_err-members_by_slot-clause-trail
trail_of_unknown_member t c place =
    let L = c.args.source.layout.now in
    let unknown = c.args.source.unknown in
    let ms = members_view c.args.members.now.entries in
    let fault = c.in_err-members_by_slot.field-0.0 in
    let p = err_from_is_err_and c.from_residual.result c.from_residual.ensures.1 in
    rw (p.1, p.2) (λ kept. here L unknown (tree_spot (object ms) (One (Struct c.args.owner)) place c.args.room.levels
    c.args.room.left) fault c.args.trail.now (front_unknown L unknown ms c.args.owner c.args.room.levels
    c.args.room.left place fault (fault_given fault _ c.in_err-members_by_slot.ensures.known kept)))

pub refused_parts_given : goal.structs::struct_of-returns-in_err-left-clause-gives
refused_parts_given t c =
    let L = c.args.source.layout.now in
    let unknown = c.args.source.unknown in
    let ms = members_view c.args.members.now.entries in
    let fault = c.in_err-left.field-0.0 in
    let p = err_from_is_err_and c.from_residual-in_err-left.result c.from_residual-in_err-left.ensures.1 in
    rw (p.1, p.2) (fails_by fault _ _ (parts_refused L unknown ms c.args.owner c.args.room.levels c.args.room.left
    (look L unknown ms) (map field_seen c.parts_of-fields.result.now) c.parts_of-fields.ensures.parts
    c.in_ok-members_by_slot.ensures.known fault)
    (c.in_err-left.ensures.gives ms c.in_ok-members_by_slot.ensures.members))

pub struct_of_parts_given : goal.structs::struct_of-returns-clause-gives
struct_of_parts_given t c =
    let L = c.args.source.layout.now in
    let unknown = c.args.source.unknown in
    let ms = members_view c.args.members.now.entries in
    parts_given L unknown ms c.args.owner c.args.room.levels c.args.room.left (look L unknown ms)
    (map field_seen c.parts_of-fields.result.now) c.parts_of-fields.ensures.parts
    c.in_ok-members_by_slot.ensures.known (map view c.parts.new.found.items) c.in_ok-left.left
    (c.in_ok-left.ensures.gives ms c.in_ok-members_by_slot.ensures.members)

-- ---- tables

table_unknown : (L : LaidSchema) (unknown : Bool) (ms : Members) (seen : Look) (t : ℕ) (at : Place) (levels left : ℕ)
    → 0 < levels → 0 < left → (f : JsonFault)
    → if_known (unknown || names_known (body_at L.schema t) ms) (type_place t) ≡ Err f
    → table_meant L unknown ms seen t at levels left ≡ Err f
unfolding table_meant
table_unknown L unknown ms seen t at zero left deep some f h = absurd (omega arith)
table_unknown L unknown ms seen t at (suc levels) left deep some f h = rw (spends 1 at left (omega arith), h) refl

pub unknown_member_of_table_given : goal.tables::table-returns-in_err-members_by_slot-clause-gives
unknown_member_of_table_given t c =
    let L = c.args.source.layout.now in
    let unknown = c.args.source.unknown in
    let ms = members_view c.args.members.now.entries in
    let fault = c.in_err-members_by_slot.field-0.0 in
    let p = err_from_is_err_and c.from_residual.result c.from_residual.ensures.1 in
    rw (p.1, p.2) (fails_by fault _ _ (table_unknown L unknown ms (look L unknown ms) c.args.owner.0 c.args.place
    c.args.room.levels c.args.room.left (omega arith) (omega arith) fault) c.in_err-members_by_slot.ensures.known)
