use Rattle.std.proofs.Common.{arith}
use Rattle.fb_layout.specs.Held.{layout_seen}
use Rattle.fb_layout.proofs.slots.MostSlotsBoundEachTable.{most_within}
use Rattle.fb_layout.proofs.layouts.Layout.most_slots.Goals as goal

pub returns-clause-few : goal.returns-clause-few
returns-clause-few c =
    let few = most_within (layout_seen c.self.inside) c.self.invariant.made in
    omega (arith, few, c.self.invariant.most_slots)
