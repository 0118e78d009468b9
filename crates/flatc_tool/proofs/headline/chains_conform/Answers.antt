use Rattle.flatc_tool.proofs.headline.ConformingTextsFollowEachOther.{chains_conform_shown}
use Rattle.flatc_tool.proofs.headline.chains_conform.Goals as goal

pub returns : goal.returns
returns c = chains_conform_shown c.layer_laws.ensures.laws
