use Rattle.flatc_tool.proofs.headline.BytesHoldAValueOrAreRefused.{others_are_refused_shown}
use Rattle.flatc_tool.proofs.headline.others_are_refused.Goals as goal

pub returns : goal.returns
returns c = others_are_refused_shown c.layer_laws.ensures.laws
