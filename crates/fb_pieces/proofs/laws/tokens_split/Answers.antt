use Rattle.fb_pieces.proofs.laws.TokensSplitAtAComma.{punctuate-comma}
use Rattle.fb_pieces.proofs.laws.tokens_split.Goals as goal

pub returns : goal.returns
returns c = punctuate-comma
