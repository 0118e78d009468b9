use Rattle.fb_pieces.proofs.laws.PiecesAreTheText.{cut_runs_are_the_text_shown}
use Rattle.fb_pieces.proofs.laws.cut_runs_are_the_text.Goals as goal

pub returns : goal.returns
returns c = cut_runs_are_the_text_shown
