use Rattle.flatc_tool.proofs.headline.BytesHoldAValueOrAreRefused.{json_is_carried_shown}
use Rattle.flatc_tool.proofs.headline.json_is_carried.Goals as goal

pub returns : goal.returns
returns c = json_is_carried_shown c.layer_laws.ensures.laws
