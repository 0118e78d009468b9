use Rattle.std.proofs.Common.{◌≡◌, ◌≤◌, drop, length, count_by}
use Rattle.fb_findings.specs.Positions.{is_feed}
use Rattle.fb_findings.proofs.positions.line_start.Given as goal

abbrev pub invariant-loop-start : goal.invariant-loop-start
invariant-loop-start l = (l.start ≤ length l.text) × (count_by is_feed (drop l.start l.text) ≡ 0)

abbrev pub decreases-loop-start : goal.decreases-loop-start
decreases-loop-start l = l.start
