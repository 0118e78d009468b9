use Rattle.std.proofs.Common.{◌+◌}
use Rattle.fb_pieces.proofs.cut.PiecesFollowOneAnother.{MembersBefore}
use Rattle.fb_pieces.proofs.cut.cut_object.Given as goal

abbrev pub invariant-loop : goal.invariant-loop
invariant-loop l = MembersBefore l.text (l.opening + 1) l.from l.members.items
