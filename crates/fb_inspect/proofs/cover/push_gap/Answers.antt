use Rattle.std.proofs.Common.{arith}
use Rattle.fb_inspect.proofs.cover.OneMoreCoversMore.{listed_more}
use Rattle.fb_inspect.proofs.cover.push_gap.Goals as goal

pub returns-in_ok-push-clause-listed : goal.returns-in_ok-push-clause-listed
returns-in_ok-push-clause-listed c =
    rw c.in_ok-push.ensures.items
    (listed_more _ _ c.args.start _ c.requires.before c.requires.before.begun (omega arith) (omega arith) (omega arith)
    (omega arith))
