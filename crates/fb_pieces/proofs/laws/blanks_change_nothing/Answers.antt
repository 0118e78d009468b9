use Rattle.fb_pieces.proofs.laws.BlanksHaveNoLexemes.{blanks_change_nothing_shown}
use Rattle.fb_pieces.proofs.laws.blanks_change_nothing.Goals as goal

pub returns : goal.returns
returns c = blanks_change_nothing_shown
