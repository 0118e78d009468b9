use Rattle.std.proofs.Common.{ap, ◌∙◌}
use Rattle.fb_layout.specs.Held.{layout_seen}
use Rattle.fb_layout.specs.Required.{required_slots}
use Rattle.fb_layout.proofs.slots.RequiredSlotsAreNumbered.{numbers_required}
use Rattle.fb_layout.proofs.layouts.Layout.required_slots.Goals as goal

pub of_type-requires : goal.of_type-requires
of_type-requires c = ((layout_seen c.self.inside).schema.types, c.self.invariant.required)

pub returns : goal.returns
returns c =
    let L = layout_seen c.self.inside in
    c.of_type.ensures L.schema.types c.self.invariant.required
    ∙ numbers_required L c.self.invariant.made.declared c.args.table.0
    ∙ ap (λ M. required_slots M c.args.table.0) c.self.view_is
