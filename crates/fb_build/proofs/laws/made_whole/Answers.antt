use Rattle.fb_build.proofs.covered.HeaderCompletesTheBuffer.{whole_shown}
use Rattle.fb_build.proofs.laws.made_whole.Goals as goal

pub returns : goal.returns
returns c = whole_shown
