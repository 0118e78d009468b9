use Rattle.fb_encode.proofs.texts.encode_text.Goals as goal

pub returns-in-Err-clause-refused : goal.returns-in-Err-clause-refused
returns-in-Err-clause-refused c = c.in-Err.ensures.refused c.args.prefixed

pub returns-in-Ok-plan_tape-clause-encoded : goal.returns-in-Ok-plan_tape-clause-encoded
returns-in-Ok-plan_tape-clause-encoded c =
    c.in-Ok-plan_tape.ensures.planned c.args.limits c.args.source.unknown c.args.json.now c.in-Ok.ensures.noted _
    c.finish.ensures.laid

pub returns-in-Err-plan_tape-clause-refused : goal.returns-in-Err-plan_tape-clause-refused
returns-in-Err-plan_tape-clause-refused c =
    c.in-Err-plan_tape.ensures.refused c.args.limits c.args.source.unknown c.args.json.now c.in-Ok.ensures.noted
