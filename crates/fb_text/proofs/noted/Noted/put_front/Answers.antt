use Rattle.std.proofs.Common.{refl, take}
use Rattle.fb_text.proofs.noted.PiecesAddUp.{added_waiting}
use Rattle.fb_text.proofs.noted.Noted.put_front.Goals as goal

pub returns : goal.returns
returns g c =
    added_waiting _ _ (take c.args.len c.args.piece.now) refl c.add_front.ensures.written refl
    (λ _. c.add_front.ensures.pending)
