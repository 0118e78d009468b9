use Rattle.flatc_tool.proofs.headline.ConformingTextsFollowEachOther.{old_programs_read_shown}
use Rattle.flatc_tool.proofs.headline.old_programs_read.Goals as goal

pub returns : goal.returns
returns c = old_programs_read_shown c.layer_laws.ensures.laws
