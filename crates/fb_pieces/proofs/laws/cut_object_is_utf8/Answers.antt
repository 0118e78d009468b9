use Rattle.fb_pieces.proofs.laws.PiecesMakeUtf8.{cut_object_is_utf8_shown}
use Rattle.fb_pieces.proofs.laws.cut_object_is_utf8.Goals as goal

pub returns : goal.returns
returns c = cut_object_is_utf8_shown
