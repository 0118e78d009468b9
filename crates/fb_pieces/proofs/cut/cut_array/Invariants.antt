use Rattle.std.proofs.Common.{◌+◌}
use Rattle.fb_pieces.proofs.cut.PiecesFollowOneAnother.{RunsBefore}
use Rattle.fb_pieces.proofs.cut.cut_array.Given as goal

abbrev pub invariant-loop-end : goal.invariant-loop-end
invariant-loop-end l = RunsBefore l.text (l.opening + 1) l.from l.runs.items
