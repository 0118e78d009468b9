use Rattle.std.proofs.Common.{◌≤◌, arith}
use Rattle.fb_value.specs.View.{view}
use Rattle.fb_value.specs.Counts.{depth}
use Rattle.fb_value.proofs.types.NestingIsBoundedByDepth.{nesting_of_depth_shown}
use Rattle.test_hostile.proofs.meanings.meaning.Goals as goal

pub returns-in-Ok-value_of-clause-nests : goal.returns-in-Ok-value_of-clause-nests
returns-in-Ok-value_of-clause-nests c =
    let within = c.in-Ok-value_of.ensures.means.1 in
    let few = c.most_depth-depth.ensures.few in
    let exact = c.most_depth-depth.ensures.exact in
    let deep : depth (view c.in-Ok-value_of.value) ≤ 127 = omega arith in
    nesting_of_depth_shown c.args.layout.now (view c.in-Ok-value_of.value) c.schema-schema.ensures.made
    c.in-Ok-value_of.ensures.fits deep
