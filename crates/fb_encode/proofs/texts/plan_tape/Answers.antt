use Rattle.fb_encode.proofs.texts.plan_tape.Goals as goal

pub returns-in-Ok-clause-planned : goal.returns-in-Ok-clause-planned
returns-in-Ok-clause-planned c most unknown json noted b by =
    (noted.0, noted.1, c.in-Ok.ensures.planned most unknown noted.0 noted.2 b by)

pub returns-in-Err-clause-refused : goal.returns-in-Err-clause-refused
returns-in-Err-clause-refused c most unknown json noted =
    (noted.0, noted.1, c.in-Err.ensures.refused most unknown noted.0 noted.2)
