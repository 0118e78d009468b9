use Rattle.fb_value.proofs.held.EachPartLiesInItsPlace.{entry_lies_shown}
use Rattle.fb_value.proofs.laws.entry_lies.Goals as goal

pub returns : goal.returns
returns c = entry_lies_shown
