use Rattle.std.proofs.Common.{rules, ◌≡◌, ◌+◌, ◌∙◌, arith}
use Rattle.fb_heard.proofs.heard.ReaderHadWhatItGave.{taken_more, all_taken, had_more, no_failure}
use Rattle.fb_heard.proofs.heard.take_all.Goals as goal

pub returns-in-Ok-eq0-clause-whole : goal.returns-in-Ok-eq0-clause-whole
returns-in-Ok-eq0-clause-whole g c =
    let none : c.in-Ok-eq0.field-0 ≡ 0 = search rules in
    all_taken _ _ _ c.loop.found.items c.read_behind.new.found.items _ c.loop.filled c.in-Ok-eq0.field-0
    (c.read_behind.ensures.front ∙ c.make_room.ensures.front) c.loop.invariant.given c.in-Ok-eq0.ensures.bytes
    (c.in-Ok-eq0.ensures.end none) none c.truncate.ensures.items

pub returns-in-Ok-clause-long : goal.returns-in-Ok-clause-long
returns-in-Ok-clause-long g c = λ same.
    let n = c.in-Ok.n in
    let all = taken_more _ _ _ c.loop.found.items c.read_behind.new.found.items c.loop.filled n
    (c.read_behind.ensures.front ∙ c.make_room.ensures.front) c.loop.invariant.given c.in-Ok.ensures.bytes
    in
    had_more _ _ c.read_behind.new.found.items (c.loop.filled + n) c.args.most all c.in-Ok.ensures.fits
    (omega arith)

pub loop-preserved : goal.loop-preserved
loop-preserved g c = record {
  turns = omega arith;
  few = omega arith;
  room = c.in-Ok.ensures.fits;
  calm = no_failure _ c.in-Ok.ensures.failed.0;
  given = taken_more _ _ _ c.loop.found.items c.read_behind.new.found.items c.loop.filled c.in-Ok.n
      (c.read_behind.ensures.front ∙ c.make_room.ensures.front) c.loop.invariant.given
      c.in-Ok.ensures.bytes;
}
