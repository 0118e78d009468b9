use Rattle.fb_layout.proofs.sizes.AlignmentsArePowersOfTwo.{kinds_shown}
use Rattle.fb_layout.proofs.laws.kinds_aligned.Goals as goal

pub returns : goal.returns
returns c = kinds_shown
