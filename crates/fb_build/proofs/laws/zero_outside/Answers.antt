use Rattle.fb_build.proofs.covered.UncoveredBytesAreZero.{zero_outside_shown}
use Rattle.fb_build.proofs.laws.zero_outside.Goals as goal

pub returns : goal.returns
returns c = zero_outside_shown
