use Rattle.fb_layout.proofs.laws.SchemaHasOneLayout.{one_sizing}
use Rattle.fb_layout.proofs.laws.one_layout.Goals as goal

pub returns : goal.returns
returns c = one_sizing
