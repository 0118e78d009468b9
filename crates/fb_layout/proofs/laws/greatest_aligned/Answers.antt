use Rattle.fb_layout.proofs.sizes.AlignmentsArePowersOfTwo.{greatest_shown}
use Rattle.fb_layout.proofs.laws.greatest_aligned.Goals as goal

pub returns : goal.returns
returns c = greatest_shown
