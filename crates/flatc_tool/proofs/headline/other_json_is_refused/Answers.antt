use Rattle.flatc_tool.proofs.headline.OtherJsonHasAFirstFault.{other_json_is_refused_shown}
use Rattle.flatc_tool.proofs.headline.other_json_is_refused.Goals as goal

pub returns : goal.returns
returns c = other_json_is_refused_shown c.layer_laws.ensures.laws
