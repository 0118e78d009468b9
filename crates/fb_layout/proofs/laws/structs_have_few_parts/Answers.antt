use Rattle.fb_layout.proofs.sizes.EachFieldTakesAByte.{few_shown}
use Rattle.fb_layout.proofs.laws.structs_have_few_parts.Goals as goal

pub returns : goal.returns
returns c = few_shown
