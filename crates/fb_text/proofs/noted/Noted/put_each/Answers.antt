use Rattle.fb_text.proofs.noted.PiecesAddUp.{added_then}
use Rattle.fb_text.proofs.noted.Noted.put_each.Goals as goal

pub returns : goal.returns
returns g c = added_then _ _ _ _ _ c.put_str.ensures (added_then _ _ _ _ _ c.put_str-2.ensures c.put_str-3.ensures)
