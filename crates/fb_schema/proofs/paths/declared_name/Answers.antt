use Rattle.std.proofs.Common.{rules}
use Rattle.fb_schema.proofs.LastDot.{split_at_dot}
use Rattle.fb_schema.proofs.paths.declared_name.Goals as goal

pub returns-in-Some : goal.returns-in-Some
returns-in-Some c =
    let split = split_at_dot c.args.full.now _ c.rsplit_once.ensures.cases in
    rw (← split) (grind rules)

pub returns-in-None : goal.returns-in-None
returns-in-None c =
    let split = split_at_dot c.args.full.now _ c.rsplit_once.ensures.cases in
    rw (← split) (grind rules)
