use Rattle.fb_json.proofs.laws.MeantValueIsWhole.{meant_whole}
use Rattle.fb_json.proofs.laws.meant_is_whole.Goals as goal

pub returns : goal.returns
returns c = meant_whole
