use Rattle.fb_conform.proofs.laws.BothMeaningsAreOneValue.{means_carried}
use Rattle.fb_conform.proofs.laws.means_carried.Goals as goal

pub returns : goal.returns
returns c = means_carried c.all_that_is_meant.ensures
