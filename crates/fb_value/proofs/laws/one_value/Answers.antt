use Rattle.fb_value.proofs.held.LyingValueIsComputed.{one_value_shown}
use Rattle.fb_value.proofs.laws.one_value.Goals as goal

pub returns : goal.returns
returns c = one_value_shown
