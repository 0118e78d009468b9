use Rattle.fb_read.proofs.parts.check_stored.Goals as goal

pub returns-in-Number : goal.returns-in-Number
returns-in-Number c = record { rules = rw c.in-Number.is (c.check_number.ensures.rules c.args.layout.now) }

pub returns-in-Code : goal.returns-in-Code
returns-in-Code c =
    record { rules = rw c.in-Code.is (c.check_code.ensures.rules c.args.layout.now c.in-Code.code.union.0) }
