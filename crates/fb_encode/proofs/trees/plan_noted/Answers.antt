use Rattle.fb_encode.proofs.trees.RefusalsComeInOrder.{build_refused}
use Rattle.fb_encode.proofs.trees.plan_noted.Goals as goal

pub returns-in-Ok-clause-planned : goal.returns-in-Ok-clause-planned
returns-in-Ok-clause-planned c most unknown t root b by =
    let d = root.value in
    let done = c.in-Ok.ensures in
    let laid = done.laid b by in
    record {
      value = d;
      means = root.means;
      fits = root.fits;
      small = done.small d root.noted;
      holds = λ bounds raw. laid.holds d bounds raw root.noted;
      old_slots = laid.old_slots;
      covered = laid.covered;
      aligned = laid.aligned;
      short = done.short b by d root.noted;
    }

pub returns-in-Err-clause-refused : goal.returns-in-Err-clause-refused
returns-in-Err-clause-refused c most unknown t root =
    build_refused c.args.source.layout.now most unknown t c.args.prefixed root.value root.means c.in-Err.fault
    (c.in-Err.ensures.too_big root.value root.noted) (c.in-Err.ensures.memory root.value root.noted)
