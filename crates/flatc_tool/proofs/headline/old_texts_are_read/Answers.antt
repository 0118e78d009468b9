use Rattle.flatc_tool.proofs.headline.OldTextsMeanTheCarriedValue.{old_texts_are_read_shown}
use Rattle.flatc_tool.proofs.headline.old_texts_are_read.Goals as goal

pub returns : goal.returns
returns c = old_texts_are_read_shown c.layer_laws.ensures.laws
