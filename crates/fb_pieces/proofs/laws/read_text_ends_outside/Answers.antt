use Rattle.fb_pieces.proofs.laws.ReadTextClosesItsStrings.{text-closed}
use Rattle.fb_pieces.proofs.laws.read_text_ends_outside.Goals as goal

pub returns : goal.returns
returns c = text-closed
