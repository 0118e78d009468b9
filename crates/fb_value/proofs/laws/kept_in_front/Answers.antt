use Rattle.fb_value.proofs.tails.TailsAreKeptInFront.{front_shown}
use Rattle.fb_value.proofs.laws.kept_in_front.Goals as goal

pub returns : goal.returns
returns c = front_shown
