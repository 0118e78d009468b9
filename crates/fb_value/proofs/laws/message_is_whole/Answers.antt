use Rattle.fb_value.proofs.held.MessagesAreTold.{whole_shown}
use Rattle.fb_value.proofs.laws.message_is_whole.Goals as goal

pub returns : goal.returns
returns c = whole_shown
