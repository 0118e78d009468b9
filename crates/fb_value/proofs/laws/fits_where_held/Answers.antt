use Rattle.fb_value.proofs.held.HeldValueFitsTheRoot.{fits_where_held_shown}
use Rattle.fb_value.proofs.laws.fits_where_held.Goals as goal

pub returns : goal.returns
returns c = fits_where_held_shown
