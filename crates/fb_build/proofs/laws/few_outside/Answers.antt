use Rattle.fb_build.proofs.covered.UncoveredBytesAreZero.{few_outside_shown}
use Rattle.fb_build.proofs.laws.few_outside.Goals as goal

pub returns : goal.returns
returns c = few_outside_shown
