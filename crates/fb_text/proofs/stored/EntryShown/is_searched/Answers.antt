use Rattle.std.proofs.Common.{◌≡◌, suc, ◌<◌, None, Some, length, drop, ap, sym, ◌∙◌, arith}
use Rattle.fb_layout.specs.Laid.{slot_of, slots_of}
use Rattle.fb_schema.specs.declared.types.FieldInfo.{FieldInfo}
use Rattle.fb_schema.specs.Seen.{field_seen}
use Rattle.fb_schema.specs.Schema.{body_at, slots_in}
use Rattle.fb_value.specs.Nth.{nth_entry}
use Rattle.fb_value.proofs.held.EachPartLiesInItsPlace.{entry_lies_shown}
use Rattle.fb_text.specs.Printed.{first_in_entry}
use Rattle.fb_text.specs.Unnamed.{may_have_unions, nth_child}
use Rattle.fb_text.proofs.values.MemberIsItsCodeAndValue.{seen_there}
use Rattle.fb_text.proofs.stored.PlainSlotsHaveNoUnions.{plain_slot}
use Rattle.fb_text.proofs.unnamed.OneEntryMore.{table_case}
use Rattle.fb_layout.proofs.slots.SlotsFollowTheirFields.{slot_there}
use Rattle.fb_text.proofs.stored.EntryShown.is_searched.Goals as goal

pub returns : goal.returns
returns c L o at shown plain =
    let view = c.in-Table.view in
    let K = view.layout.now in
    let i = c.args.i in
    let x = c.index-slots-i.result in
    let fields = c.slots_of-slots.result.now in
    let shows = rw c.in-Table.is at shown in
    let less : i < length fields = omega (arith, c.if-i-slots.false) in
    let seen = rw (c.layout.ensures, c.type_id.ensures) at c.slots_of-slots.ensures.slots in
    let field = rw seen at (seen_there fields i x less c.index-slots-i.is) in
    let slot = slot_there K.schema (slots_in (body_at K.schema view.table.0)) i (field_seen x) field in
    let own = ap (λ (y : FieldInfo). may_have_unions y.shape) c.index-slots-i.is in
    rw shows.2 (table_case view (λ d. first_in_entry at (nth_child (Some d) i) ≡ None) shows.1 shows.3 (λ t es here.
    sym (plain_slot K view.bytes.now at (slot_of K.schema (field_seen x)) view.at i
    (drop (suc i) (slots_of K view.table.0)) x.shape (nth_entry es i) (own ∙ (sym c.may_have_unions.ensures ∙ plain))
    (entry_lies_shown K view.bytes.now view.at (slots_of K view.table.0) es i (slot_of K.schema (field_seen x)) here.2
    slot))))
