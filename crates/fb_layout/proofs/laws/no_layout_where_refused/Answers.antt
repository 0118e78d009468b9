use Rattle.fb_layout.proofs.laws.SchemaHasOneLayout.{no_layout}
use Rattle.fb_layout.proofs.laws.no_layout_where_refused.Goals as goal

pub returns : goal.returns
returns c = no_layout
