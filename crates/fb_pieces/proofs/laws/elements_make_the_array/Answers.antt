use Rattle.fb_pieces.proofs.laws.RunsMakeTheArray.{elements_make_the_array_shown}
use Rattle.fb_pieces.proofs.laws.elements_make_the_array.Goals as goal

pub returns : goal.returns
returns c = elements_make_the_array_shown
