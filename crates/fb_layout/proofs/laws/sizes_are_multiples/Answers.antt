use Rattle.fb_layout.proofs.sizes.AlignmentsArePowersOfTwo.{multiples_shown}
use Rattle.fb_layout.proofs.laws.sizes_are_multiples.Goals as goal

pub returns : goal.returns
returns c = multiples_shown
