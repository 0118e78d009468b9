use Rattle.std.proofs.Common.{max, arith}
use Rattle.fb_inspect.proofs.cover.OneMoreCoversMore.{listed_more}
use Rattle.fb_inspect.proofs.cover.push_piece.Goals as goal

pub returns-clause-listed : goal.returns-clause-listed
returns-clause-listed c =
    rw c.in_ok-push.ensures.items
    (listed_more _ c.args.piece (max c.args.covered c.args.piece.start) _ c.in_ok-push_gap.ensures.listed
    (c.in_ok-push_gap.ensures.begun c.requires.begun) (omega arith) (omega (arith, c.max.ensures, c.max-2.ensures))
    (omega (arith, c.max.ensures, c.max-2.ensures)) (omega (arith, c.max.ensures, c.max-2.ensures)))
