use Rattle.std.proofs.Common.{◌≡◌, ◌∙◌, ap, refl, subst}
use Rattle.fb_layout.specs.Seen.{kind_seen}
use Rattle.fb_value.specs.Room.{vector_room}
use Rattle.fb_value.specs.UpTo.{at_most_usize}
use Rattle.fb_tape.specs.TapeHeld.{tape_seen}
use Rattle.fb_tape.specs.Tapes.{Taped}
use Rattle.fb_tape.proofs.tape.ReferencesAreLaid.{references_noted}
use Rattle.fb_tape.proofs.tape.RoomsAreSummedUp.{room_capped, over_fits}
use Rattle.fb_tape.proofs.tape.Tape.push_references.Goals as goal

pub returns-clause-waits : goal.returns-clause-waits
returns-clause-waits c others ds many known waits =
    let own = subst (λ (t : Taped). c.vector_room-room.result
    ≡ at_most_usize (vector_room t.layout (kind_seen t.layout c.args.kind) c.args.count)) c.self.view_is
    c.vector_room-room.ensures in
    references_noted c.args.self.now c.add_room.new.self (tape_seen c.self-2.inside) c.push.new.self.items
    (kind_seen c.args.self.now.layout c.args.kind) c.args.count _ others ds c.requires.references
    c.add_room.ensures.adds
    own c.if-is_over.ensures.exact c.self-2.view_is c.in_ok-push.ensures.items many known waits

pub returns-then-is_over-clause-waits : goal.returns-then-is_over-clause-waits
returns-then-is_over-clause-waits c others ds many known waits fits =
    over_fits c.add_room.new.self.room c.add_room.new.self.room c.if-is_over.ensures.exact refl fits

pub returns-then-is_over-clause-room : goal.returns-then-is_over-clause-room
returns-then-is_over-clause-room c =
    let own = subst (λ (t : Taped). c.vector_room-room.result
    ≡ at_most_usize (vector_room t.layout (kind_seen t.layout c.args.kind) c.args.count)) c.self.view_is
    c.vector_room-room.ensures in
    room_capped c.args.self.now.room _ _ _ (ap (λ (t : Taped). t.room) c.add_room.ensures.adds) own

pub returns-then-is_over-clause-whole : goal.returns-then-is_over-clause-whole
returns-then-is_over-clause-whole c = ap (λ (t : Taped). t.unfinished) c.add_room.ensures.adds ∙ c.requires.whole

pub returns-clause-room : goal.returns-clause-room
returns-clause-room c =
    let own = subst (λ (t : Taped). c.vector_room-room.result
    ≡ at_most_usize (vector_room t.layout (kind_seen t.layout c.args.kind) c.args.count)) c.self.view_is
    c.vector_room-room.ensures in
    room_capped c.args.self.now.room _ _ _
    (ap (λ (t : Taped). t.room) (c.self-2.view_is ∙ c.add_room.ensures.adds)) own

pub returns-clause-whole : goal.returns-clause-whole
returns-clause-whole c =
    ap (λ (t : Taped). t.unfinished) (c.self-2.view_is ∙ c.add_room.ensures.adds) ∙ c.requires.whole

pub returns-clause-layout : goal.returns-clause-layout
returns-clause-layout c = ap (λ (t : Taped). t.layout) (c.self-2.view_is ∙ c.add_room.ensures.adds)
