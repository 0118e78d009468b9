use Rattle.fb_pieces.proofs.laws.RunsMakeTheArray.{runs_make_the_array_shown}
use Rattle.fb_pieces.proofs.laws.runs_make_the_array.Goals as goal

pub returns : goal.returns
returns c = runs_make_the_array_shown
