use Rattle.fb_value.proofs.laws.ValueOfAPlaceByOneStep.{value_of_place_shown}
use Rattle.fb_value.proofs.laws.value_of_place.Goals as goal

pub returns : goal.returns
returns c = value_of_place_shown
