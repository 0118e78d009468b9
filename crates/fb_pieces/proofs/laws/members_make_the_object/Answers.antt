use Rattle.fb_pieces.proofs.laws.RunsMakeTheObject.{members_make_the_object_shown}
use Rattle.fb_pieces.proofs.laws.members_make_the_object.Goals as goal

pub returns : goal.returns
returns c = members_make_the_object_shown
