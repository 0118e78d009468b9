use Rattle.fb_owned.proofs.buffers.build.Goals as goal

pub returns-clause-holds : goal.returns-clause-holds
returns-clause-holds c most raw deep small =
    let told = c.in_ok-plan.ensures in
    let deep2 = rw (← told.value) at deep in
    let small2 = rw (← told.value) at small in
    let holds = c.finish.ensures.holds most raw deep2 small2 in
    rw (← told.layout) (rw (← told.value) holds)

pub returns-clause-old_slots : goal.returns-clause-old_slots
returns-clause-old_slots c = rw (← c.in_ok-plan.ensures.layout) c.finish.ensures.old_slots

pub returns-clause-covered : goal.returns-clause-covered
returns-clause-covered c = rw (← c.in_ok-plan.ensures.layout) c.finish.ensures.covered

pub returns-clause-aligned : goal.returns-clause-aligned
returns-clause-aligned c = rw (← c.in_ok-plan.ensures.layout) c.finish.ensures.aligned
