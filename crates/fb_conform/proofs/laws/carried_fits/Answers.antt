use Rattle.fb_conform.proofs.laws.CarriedFitsTheNewRoot.{carried_fits}
use Rattle.fb_conform.proofs.laws.carried_fits.Goals as goal

pub returns : goal.returns
returns c = carried_fits
