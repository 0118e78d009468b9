use Rattle.std.proofs.Common.{◌≤◌, arith}
use Rattle.fb_value.specs.Datum.{count}
use Rattle.fb_text.proofs.stored.NoneBehindTheLast.{none_behind}
use Rattle.fb_text.proofs.stored.EntryShown.child.Goals as goal

pub returns-else-i-count-clause-shows : goal.returns-else-i-count-clause-shows
returns-else-i-count-clause-shows c L o shown =
    let shows = rw c.in-Vector.is at shown in
    let past : count shows.1 ≤ c.args.i = omega (arith, shows.3.0, c.count.ensures, c.if-i-count.false) in
    rw shows.2 (none_behind shows.1 c.args.i past)
