use Rattle.fb_conform.proofs.laws.JsonMeansTheCarriedValue.{names_carry}
use Rattle.fb_conform.proofs.laws.names_carry.Goals as goal

pub returns : goal.returns
returns c = names_carry
