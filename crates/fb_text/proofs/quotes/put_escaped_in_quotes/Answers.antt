use Rattle.fb_text.proofs.noted.PiecesAddUp.{added_then}
use Rattle.fb_text.proofs.quotes.put_escaped_in_quotes.Goals as goal

pub returns : goal.returns
returns g c = added_then _ _ _ _ _ c.put.ensures (added_then _ _ _ _ _ c.put_escaped.ensures c.put-2.ensures)
