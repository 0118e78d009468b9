use Rattle.std.proofs.Common.{ap, refl}
use Rattle.std.proofs.lemmas.Result.{err_from_is_err_and}
use Rattle.serde_json.specs.View.{view as tree_view}
use Rattle.fb_schema.specs.Seen.{field_seen}
use Rattle.fb_layout.specs.Laid.{stored_shape, struct_kind}
use Rattle.fb_value.specs.Datum.{a_struct}
use Rattle.fb_value.specs.View.{parts_view}
use Rattle.fb_json.specs.Meant.{meant, slot_place}
use Rattle.fb_json.specs.SlotMembers.{is_of_union}
use Rattle.fb_encode.proofs.entries.PresentEntryIsNoted.{inline_noted, plain_given, plain_refused}
use Rattle.fb_encode.proofs.entries.note_struct.Goals as goal

pub returns-in_err-left-clause-refused : goal.returns-in_err-left-clause-refused
returns-in_err-left-clause-refused c =
    let L = c.args.source.layout.now in
    let slot = c.args.slot in
    let p = err_from_is_err_and c.from_residual.result c.from_residual.ensures.1 in
    rw (p.1, p.2) (plain_refused L (field_seen slot.field.now) slot.code
    (meant L c.args.source.unknown (tree_view c.args.tree.now)) (slot_place slot.owner.0 slot.number) c.args.levels
    c.args.left (ap is_of_union c.requires.kind) c.in_err-left.field-0.0
    (rw c.requires.kind (rw c.place-place.ensures at c.in_err-left.ensures.gives)))

pub returns-clause-noted : goal.returns-clause-noted
returns-clause-noted c T whole =
    let L = c.args.source.layout.now in
    let slot = c.args.slot in
    let d = a_struct (parts_view c.struct_parts.new.parts.items) in
    let is = plain_given L (field_seen slot.field.now) slot.code
    (meant L c.args.source.unknown (tree_view c.args.tree.now)) (slot_place slot.owner.0 slot.number) c.args.levels
    c.args.left (ap is_of_union c.requires.kind) d c.in_ok-left.left
    (rw c.requires.kind (rw c.place-place.ensures at c.in_ok-left.ensures.gives)) in
    inline_noted L slot.number (field_seen slot.field.now) c.requires.used (struct_kind c.args.structure.0) d
    (ap (stored_shape L.schema) c.requires.kind) c.requires.inline c.in_ok-left.ensures.fits
    c.in_ok-left.ensures.whole _ c.in_ok-left.left is T whole c.args.opened.now c.push_struct.new.self refl
    (rw c.as_slice.ensures.value at c.in_ok-push_struct.ensures.adds)
