use Rattle.fb_layout.specs.Held.{layout_seen}
use Rattle.fb_layout.proofs.sizes.EachFieldTakesAByte.{few_held}
use Rattle.fb_layout.proofs.layouts.Layout.parts_of.Goals as goal

pub returns-clause-few : goal.returns-clause-few
returns-clause-few c = few_held (layout_seen c.self.inside) c.args.structure.0 c.parts_at.result.now
    c.self.invariant.made c.parts_at.ensures
