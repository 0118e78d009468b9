use Rattle.fb_value.proofs.held.MessagesAreTold.{held_shown}
use Rattle.fb_value.proofs.laws.held_is_message.Goals as goal

pub returns : goal.returns
returns c = held_shown
