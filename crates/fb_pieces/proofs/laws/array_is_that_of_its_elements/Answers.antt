use Rattle.fb_pieces.proofs.laws.ArrayIsRefusedWhereAnElementIs.{array_is_that_of_its_elements_shown}
use Rattle.fb_pieces.proofs.laws.array_is_that_of_its_elements.Goals as goal

pub returns : goal.returns
returns c = array_is_that_of_its_elements_shown
