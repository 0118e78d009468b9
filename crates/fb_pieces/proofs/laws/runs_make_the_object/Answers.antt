use Rattle.fb_pieces.proofs.laws.RunsMakeTheObject.{runs_make_the_object_shown}
use Rattle.fb_pieces.proofs.laws.runs_make_the_object.Goals as goal

pub returns : goal.returns
returns c = runs_make_the_object_shown
