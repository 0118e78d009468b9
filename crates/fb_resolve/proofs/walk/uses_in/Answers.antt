use Rattle.std.proofs.Common.{arith}
use Rattle.fb_resolve.proofs.PathsKept.{one_noted}
use Rattle.fb_resolve.proofs.walk.uses_in.Goals as goal

pub loop-user-preserved : goal.loop-user-preserved
loop-user-preserved g c =
    let noted = c.in_ok-type_use.ensures in
    record {
      room = omega arith;
      noted = rw c.push_reserved.ensures.items (one_noted g.T.UsesType.name c.args.used.now c.loop-user.used
          c.type_use.new.used c.loop-user.uses.items c.args.users.now c.loop-user.user-index c.in_ok-type_use.field-0
          c.user-item.result c.loop-user-test.true c.user-item.is noted.tree noted.kept
          (rw c.name_used.ensures at noted.noted) c.loop-user.invariant.noted);
    }
