use Rattle.std.proofs.Common.{refl}
use Rattle.fb_text.proofs.noted.PiecesAddUp.{added_waiting}
use Rattle.fb_text.proofs.noted.Noted.put.Goals as goal

pub returns-then-has_room : goal.returns-then-has_room
returns-then-has_room g c =
    added_waiting _ _ c.args.piece.now refl c.add.ensures.written refl (λ _. c.add.ensures.pending)
