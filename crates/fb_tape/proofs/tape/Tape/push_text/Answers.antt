use Rattle.std.proofs.Common.{ap, refl, ◌∙◌}
use Rattle.std.proofs.lemmas.Result.{on_ok_weaker}
use Rattle.fb_tape.specs.Tapes.{Taped}
use Rattle.fb_tape.proofs.tape.DataIsLaid.{text_waits, with_bytes}
use Rattle.fb_tape.proofs.tape.RoomsAreSummedUp.{room_known, room_capped, over_fits}
use Rattle.fb_tape.proofs.tape.Tape.push_text.Goals as goal

pub returns-clause-waits : goal.returns-clause-waits
returns-clause-waits c =
    let counted = c.push_count.new.self in
    on_ok_weaker c.finish_data.result (λ done ps waits.
    text_waits c.args.self.now c.add_room.new.self counted c.push_bytes.new.self c.push_bytes-2.new.self
    c.finish_data.new.self c.args.text.now c.of.result _ ps c.utf8.text c.requires.whole c.add_room.ensures.adds
    c.in_ok-push_count.ensures.adds
    (c.in_ok-push_bytes.ensures.adds ∙ ap (with_bytes counted) c.as_bytes.ensures.value)
    c.in_ok-push_bytes-2.ensures.adds done c.of.ensures
    (room_known c.args.self.now c.add_room.new.self _ _ c.add_room.ensures.adds c.text_room.ensures
    c.if-is_over.ensures.exact) waits) c.finish_data.ensures.adds

pub returns-then-is_over-clause-waits : goal.returns-then-is_over-clause-waits
returns-then-is_over-clause-waits c ps waits fits =
    over_fits c.add_room.new.self.room c.add_room.new.self.room c.if-is_over.ensures.exact refl fits

pub returns-then-is_over-clause-room : goal.returns-then-is_over-clause-room
returns-then-is_over-clause-room c =
    room_capped c.args.self.now.room _ _ _ (ap (λ (t : Taped). t.room) c.add_room.ensures.adds) c.text_room.ensures

pub returns-then-is_over-clause-whole : goal.returns-then-is_over-clause-whole
returns-then-is_over-clause-whole c = ap (λ (t : Taped). t.unfinished) c.add_room.ensures.adds ∙ c.requires.whole

pub returns-clause-room : goal.returns-clause-room
returns-clause-room c =
    on_ok_weaker c.finish_data.result (λ done. ap (λ (t : Taped). t.room) done
    ∙ ap (λ (t : Taped). t.room) c.in_ok-push_bytes-2.ensures.adds
    ∙ ap (λ (t : Taped). t.room) c.in_ok-push_bytes.ensures.adds
    ∙ ap (λ (t : Taped). t.room) c.in_ok-push_count.ensures.adds
    ∙ room_capped c.args.self.now.room _ _ _ (ap (λ (t : Taped). t.room) c.add_room.ensures.adds) c.text_room.ensures)
    c.finish_data.ensures.adds

pub returns-clause-whole : goal.returns-clause-whole
returns-clause-whole c =
    on_ok_weaker c.finish_data.result (λ done. ap (λ (t : Taped). t.unfinished) done) c.finish_data.ensures.adds
