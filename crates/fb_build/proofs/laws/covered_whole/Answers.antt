use Rattle.fb_build.proofs.covered.TightTailIsCovered.{covered_shown}
use Rattle.fb_build.proofs.laws.covered_whole.Goals as goal

pub returns : goal.returns
returns c = covered_shown
