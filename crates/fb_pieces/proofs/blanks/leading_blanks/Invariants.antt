use Rattle.std.proofs.Common.{take}
use Rattle.fb_pieces.specs.Blanks.{AreBlanks}
use Rattle.fb_pieces.proofs.blanks.leading_blanks.Given as goal

abbrev pub invariant-loop-at : goal.invariant-loop-at
invariant-loop-at l = AreBlanks (take l.at l.text)
