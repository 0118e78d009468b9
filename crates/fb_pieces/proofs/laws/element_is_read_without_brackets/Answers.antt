use Rattle.fb_pieces.proofs.laws.RunsMakeTheArray.{element_is_read_without_brackets_shown}
use Rattle.fb_pieces.proofs.laws.element_is_read_without_brackets.Goals as goal

pub returns : goal.returns
returns c = element_is_read_without_brackets_shown
