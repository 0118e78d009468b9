use Rattle.fb_build.proofs.buffers.plan_root.Goals as goal

pub returns-clause-laid : goal.returns-clause-laid
returns-clause-laid c b laid =
    let told = c.in_ok-plan.ensures in
    record {
      holds = λ d most raw notes deep small.
          let planned = rw (← told.tape) at notes.means in
          let holds = rw told.prefixed at (laid.holds notes.entries most raw planned (rw notes.value_is at deep)
          (rw notes.value_is at small)) in
          rw notes.value_is (rw (← told.layout) holds);
      old_slots = rw (← told.layout) (rw told.prefixed at laid.old_slots);
      covered = rw (← told.layout) (rw told.prefixed at laid.covered);
      aligned = rw (← told.layout) (rw told.prefixed at laid.aligned);
    }
