use Rattle.fb_layout.proofs.sizes.AlignmentsArePowersOfTwo.{sizes_shown}
use Rattle.fb_layout.proofs.laws.sizes_fit.Goals as goal

pub returns : goal.returns
returns c = sizes_shown
