use Rattle.std.proofs.Common.{◌≡◌, ◌++◌, drop}
use Rattle.fb_findings.specs.Positions.{starts_from}
use Rattle.fb_findings.proofs.line_starts.LineStarts.of.Given as goal

abbrev pub invariant-loop-at : goal.invariant-loop-at
invariant-loop-at l = l.starts.items ++ starts_from l.at (drop l.at l.text) ≡ starts_from 0 l.text
