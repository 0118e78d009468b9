use Rattle.std.proofs.Common.{arith}
use Rattle.fb_conform.proofs.walk.EachPlaceIsWalked.{types_end}
use Rattle.fb_conform.proofs.walk.walk.Goals as goal

pub loop-i-preserved : goal.loop-i-preserved
loop-i-preserved g c = c.in_ok-walk_type.ensures

pub returns : goal.returns
returns g c =
    types_end c.args.old.now c.args.new.now g.H.DifferenceHearer.wants c.loop-i.i _ c.schema.result.now
    c.types-i-end.result.now
    c.types-i-end.ensures.types c.schema.ensures.schema (omega (arith, c.loop-i-test.false)) c.loop-i.invariant
