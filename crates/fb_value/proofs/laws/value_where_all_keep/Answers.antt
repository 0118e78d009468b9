use Rattle.fb_value.proofs.held.BytesHoldAValueOrAFault.{value_where_all_keep_shown}
use Rattle.fb_value.proofs.laws.value_where_all_keep.Goals as goal

pub returns : goal.returns
returns c = value_where_all_keep_shown
