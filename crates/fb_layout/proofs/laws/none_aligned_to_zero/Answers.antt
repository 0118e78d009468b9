use Rattle.fb_layout.proofs.sizes.AlignmentsArePowersOfTwo.{positive_shown}
use Rattle.fb_layout.proofs.laws.none_aligned_to_zero.Goals as goal

pub returns : goal.returns
returns c = positive_shown
