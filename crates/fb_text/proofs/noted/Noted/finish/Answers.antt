use Rattle.std.proofs.Common.{subst, ◌∙◌, append-nil}
use Rattle.fb_text.specs.Writes.{state_of, Stands}
use Rattle.fb_text.proofs.noted.WrittenStands.{written_whole, written_front}
use Rattle.fb_text.proofs.noted.Noted.finish.Goals as goal

pub returns-then-self-clause-written : goal.returns-then-self-clause-written
returns-then-self-clause-written g c = λ start text stands.
    let now = state_of g.W.Write.contents c.write_pending.new.self in
    let stood = subst (Stands start now) (append-nil text) (c.write_pending.ensures.adds.adds start text stands) in
    let (m, less, got, count) = written_front start now text stood c.if-self.true in
    (m, less, got, c.written.ensures ∙ count)

pub returns-clause-written : goal.returns-clause-written
returns-clause-written g c = λ start text stands.
    let now = state_of g.W.Write.contents c.write_pending.new.self in
    let stood = subst (Stands start now) (append-nil text) (c.write_pending.ensures.adds.adds start text stands) in
    written_whole start now text stood c.if-self.false c.write_pending.ensures.empty
