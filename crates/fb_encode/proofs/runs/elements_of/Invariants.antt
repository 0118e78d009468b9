use Rattle.std.proofs.Common.{◌≡◌, take}
use Rattle.fb_encode.specs.TextsRead.{elements_in}
use Rattle.fb_encode.proofs.runs.elements_of.Given as goal

abbrev pub invariant-loop-run : goal.invariant-loop-run
invariant-loop-run l = l.count ≡ elements_in (take l.run-index l.runs)
