use Rattle.std.proofs.Common.{◌≡◌, ◌++◌, true, false, refl, ap, sym, ◌∙◌, arith}
use Rattle.fb_text.proofs.noted.PiecesAddUp.{added_waiting, added_written}
use Rattle.fb_text.proofs.noted.Noted.put_first.Goals as goal

pub returns-then-self : goal.returns-then-self
returns-then-self g c =
    added_waiting _ _ c.args.piece.now refl refl refl
    (λ fine. let no : true ≡ false = sym c.if-self.true ∙ fine in cc)

pub returns : goal.returns
returns g c =
    added_written _ _ c.args.piece.now c.args.piece.now c.if-self.false (ap (λ l. l ++ c.args.piece.now) c.requires)
    c.restart.ensures.pending
    (λ fine. let (all, got) = c.write_bytes-written.ensures.all fine in (got, omega (arith, all)))
    (λ broken. let (less, got) = c.write_bytes-written.ensures.some broken in
    (c.write_bytes-written.result, less, got, omega arith))

pub returns-then-has_room : goal.returns-then-has_room
returns-then-has_room g c =
    added_waiting _ _ c.args.piece.now refl c.add.ensures.written refl (λ _. c.add.ensures.pending)
