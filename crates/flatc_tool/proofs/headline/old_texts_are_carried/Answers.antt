use Rattle.flatc_tool.proofs.headline.OldTextsMeanTheCarriedValue.{old_texts_are_carried_shown}
use Rattle.flatc_tool.proofs.headline.old_texts_are_carried.Goals as goal

pub returns : goal.returns
returns c = old_texts_are_carried_shown c.layer_laws.ensures.laws
