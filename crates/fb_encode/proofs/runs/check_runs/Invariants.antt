use Rattle.std.proofs.Common.{take}
use Rattle.fb_encode.specs.TextsRead.{AreRunsRead}
use Rattle.fb_encode.proofs.runs.check_runs.Given as goal

abbrev pub invariant-loop-run : goal.invariant-loop-run
invariant-loop-run l = AreRunsRead l.array.brackets l.array.text.now (take l.run-index l.runs)
