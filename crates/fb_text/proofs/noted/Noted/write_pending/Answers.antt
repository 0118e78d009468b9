use Rattle.std.proofs.Common.{◌≡◌, true, false, [], refl, sym, ◌∙◌, append-nil, arith}
use Rattle.fb_text.specs.WriteBuffers.{pending}
use Rattle.fb_text.proofs.noted.PiecesAddUp.{added_waiting, added_written}
use Rattle.fb_text.proofs.noted.Noted.write_pending.Goals as goal

pub returns-then-self-clause-adds : goal.returns-then-self-clause-adds
returns-then-self-clause-adds g c =
    added_waiting _ _ [] refl (c.restart.ensures.written ∙ c.written-before.ensures) refl
    (λ fine. let no : true ≡ false = sym c.if-self.true ∙ fine in cc)

pub returns-clause-adds : goal.returns-clause-adds
returns-clause-adds g c =
    let waits = pending c.args.self.now.buffer in
    let same = c.pending.ensures in
    added_written _ _ [] waits c.if-self.false (append-nil waits) c.restart-2.ensures.pending
    (λ fine. let (all, got) = rw same at (c.write_bytes-written.ensures.all fine) in (got, omega (arith, all)))
    (λ broken. let (less, got) = rw same at (c.write_bytes-written.ensures.some broken) in
    (c.write_bytes-written.result, less, got, omega arith))
