use Rattle.fb_encode.proofs.texts.plan_text.Goals as goal

pub returns-in-Err-clause-refused : goal.returns-in-Err-clause-refused
returns-in-Err-clause-refused c = rw c.as_slice.ensures.value at (c.in-Err.ensures.refused c.args.prefixed)

pub returns-clause-refused : goal.returns-clause-refused
returns-clause-refused c =
    rw c.as_slice.ensures.value at (c.plan_tape.ensures.refused c.args.limits c.args.source.unknown
    c.as_slice.result.now c.in-Ok.ensures.noted)
