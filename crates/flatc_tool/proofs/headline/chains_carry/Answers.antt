use Rattle.flatc_tool.proofs.headline.ConformingTextsFollowEachOther.{chains_carry_shown}
use Rattle.flatc_tool.proofs.headline.chains_carry.Goals as goal

pub returns : goal.returns
returns c = chains_carry_shown c.layer_laws.ensures.laws
