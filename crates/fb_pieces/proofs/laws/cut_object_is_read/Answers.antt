use Rattle.fb_pieces.proofs.laws.TextIsReadByItsPieces.{cut_object_is_read_shown}
use Rattle.fb_pieces.proofs.laws.cut_object_is_read.Goals as goal

pub returns : goal.returns
returns c = cut_object_is_read_shown
