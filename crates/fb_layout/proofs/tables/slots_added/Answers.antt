use Rattle.std.proofs.Common.{map, option_map, sym, ◌∙◌}
use Rattle.fb_schema.specs.Seen.{field_seen}
use Rattle.fb_layout.specs.Known.{sizes_seen, slot_added}
use Rattle.fb_layout.proofs.structs.OneStepMore.{added_next, added_none, added_all}
use Rattle.fb_layout.proofs.tables.slots_added.Goals as goal

pub returns-in_err-sizes : goal.returns-in_err-sizes
returns-in_err-sizes c =
    let step = slot_added c.args.schema.now (map (option_map sizes_seen) c.args.structs.now) in
    c.from_residual.ensures
    ∙ sym (added_none step field_seen c.loop-field.sizes c.args.slots.now c.loop-field.field-index
    c.field-item.result c.loop-field-test.true c.field-item.is (sym c.slot_added.ensures ∙ c.in_err-sizes.was))
    ∙ c.loop-field.invariant

pub loop-field-preserved : goal.loop-field-preserved
loop-field-preserved c =
    let step = slot_added c.args.schema.now (map (option_map sizes_seen) c.args.structs.now) in
    added_next step field_seen c.loop-field.sizes c.in_ok-sizes.sizes c.args.slots.now c.loop-field.field-index
    c.field-item.result c.loop-field-test.true c.field-item.is (sym c.slot_added.ensures ∙ c.in_ok-sizes.was)
    ∙ c.loop-field.invariant

pub returns : goal.returns
returns c =
    let step = slot_added c.args.schema.now (map (option_map sizes_seen) c.args.structs.now) in
    sym (added_all step field_seen c.loop-field.sizes c.args.slots.now c.loop-field.field-index c.loop-field-test.false)
    ∙ c.loop-field.invariant
