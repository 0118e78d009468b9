use Rattle.fb_build.proofs.covered.UncoveredBytesAreZero.{by_its_value_shown}
use Rattle.fb_build.proofs.laws.covered_by_its_value.Goals as goal

pub returns : goal.returns
returns c = by_its_value_shown
