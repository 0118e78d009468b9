use Rattle.fb_layout.proofs.sizes.AlignmentsArePowersOfTwo.{tables_shown}
use Rattle.fb_layout.proofs.laws.tables_aligned.Goals as goal

pub returns : goal.returns
returns c = tables_shown
