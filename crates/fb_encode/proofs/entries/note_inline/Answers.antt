use mir.Facts.{to_z-of_z}
use Rattle.std.proofs.Common.{◌∙◌, not, ap, refl, rules}
use Rattle.std.proofs.lemmas.Result.{err_from_is_err_and}
use Rattle.std.specs.Int.{w128}
use Rattle.std.specs.Prelude.{FitsSigned}
use Rattle.serde_json.specs.View.{view as tree_view}
use Rattle.fb_schema.specs.Seen.{field_seen}
use Rattle.fb_schema.specs.declared.kinds.Shape.TheVariants.{One}
use Rattle.fb_layout.specs.Laid.{stored_kind, stored_shape}
use Rattle.fb_value.specs.Datum.{a_number}
use Rattle.fb_value.proofs.types.EachVariantHasItsView.{view-Number}
use Rattle.fb_json.specs.Meant.{meant, slot_place}
use Rattle.fb_encode.proofs.entries.PresentEntryIsNoted.{default_noted, inline_noted, not_coded}
use Rattle.fb_encode.proofs.entries.PresentEntryIsNoted.{plain_given, plain_refused}
use Rattle.fb_encode.proofs.entries.note_inline.Goals as goal

pub note_struct-requires : goal.note_struct-requires
note_struct-requires c = record {
  used = c.requires.used;
  kind = c.requires.kind ∙ ap One c.in-Struct.is;
  inline = rw c.in-Struct.is at c.requires.inline;
}

pub returns-in_err-number-clause-refused : goal.returns-in_err-number-clause-refused
returns-in_err-number-clause-refused c =
    let L = c.args.source.layout.now in
    let slot = c.args.slot in
    let p = err_from_is_err_and c.from_residual.result c.from_residual.ensures.1 in
    let fails = rw c.in_err-number.was at c.in-Some.ensures.gives c.args.levels c.args.left in
    rw (p.1, p.2) (plain_refused L (field_seen slot.field.now) slot.code
    (meant L c.args.source.unknown (tree_view c.args.tree.now)) (slot_place slot.owner.0 slot.number) c.args.levels
    c.args.left c.requires.plain c.in_err-number.field-0.0 (rw c.requires.kind (rw c.place.ensures at fails)))

pub returns-then-is_default-clause-noted : goal.returns-then-is_default-clause-noted
returns-then-is_default-clause-noted c T whole =
    let L = c.args.source.layout.now in
    let slot = c.args.slot in
    let number = c.in_ok-number.field-0 in
    let gives = rw c.in_ok-number.was at c.in-Some.ensures.gives c.args.levels c.args.left in
    let is = plain_given L (field_seen slot.field.now) slot.code
    (meant L c.args.source.unknown (tree_view c.args.tree.now)) (slot_place slot.owner.0 slot.number) c.args.levels
    c.args.left c.requires.plain (a_number number) c.args.left (rw c.requires.kind (rw c.place.ensures at gives)) in
    let wide : FitsSigned w128 number = search (rules, c.number_of.type_inv, c.in-Some.is, c.in_ok-number.was) in
    let seen = view-Number _ ∙ ap a_number (to_z-of_z {w = w128} {z = number} wide) in
    let stored = c.is_default.ensures.stored L (not_coded slot.field.now.shape c.requires.plain)
    ∙ ap not c.if-is_default.true in
    default_noted L slot.number (field_seen slot.field.now) c.requires.used (stored_kind L.schema c.args.kind)
    (a_number number) (ap (stored_shape L.schema) c.requires.kind) c.requires.inline
    (rw c.in_ok-number.was at c.in-Some.ensures.fits) refl _ c.args.left is T whole c.args.opened.now
    (rw seen at stored)

pub returns-clause-noted : goal.returns-clause-noted
returns-clause-noted c T whole =
    let L = c.args.source.layout.now in
    let slot = c.args.slot in
    let number = c.in_ok-number.field-0 in
    let gives = rw c.in_ok-number.was at c.in-Some.ensures.gives c.args.levels c.args.left in
    let is = plain_given L (field_seen slot.field.now) slot.code
    (meant L c.args.source.unknown (tree_view c.args.tree.now)) (slot_place slot.owner.0 slot.number) c.args.levels
    c.args.left c.requires.plain (a_number number) c.args.left (rw c.requires.kind (rw c.place.ensures at gives)) in
    let wide : FitsSigned w128 number = search (rules, c.number_of.type_inv, c.in-Some.is, c.in_ok-number.was) in
    let seen = view-Number _ ∙ ap a_number (to_z-of_z {w = w128} {z = number} wide) in
    let stored = c.is_default.ensures.stored L (not_coded slot.field.now.shape c.requires.plain)
    ∙ ap not c.if-is_default.false in
    inline_noted L slot.number (field_seen slot.field.now) c.requires.used (stored_kind L.schema c.args.kind)
    (a_number number) (ap (stored_shape L.schema) c.requires.kind) c.requires.inline
    (rw c.in_ok-number.was at c.in-Some.ensures.fits) refl _ c.args.left is T whole c.args.opened.now
    c.push_inline-pushed.new.self (rw seen at stored) (rw seen at c.in_ok-pushed.ensures.adds)
