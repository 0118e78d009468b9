use Rattle.std.proofs.Common.{◌∙◌, ◌≤◌, ◌+◌, ◌*◌, length, drop, refl, ap, length-append, arith}
use Rattle.std.proofs.lemmas.List.{drop_all}
use Rattle.std.proofs.lemmas.List.Elements.{All-tail}
use Rattle.std.proofs.lemmas.Bool.{eq-eqb, ne_eqb}
use Rattle.fb_tape.specs.OpenFields.{OpenField}
use Rattle.fb_tape.specs.OpenList.{field_seen}
use Rattle.fb_tape.proofs.stored_tables.FieldsInTurn.{drop_next, at_align_more, at_align_other, begun, noted}
use Rattle.fb_tape.proofs.stored_tables.FieldsInTurn.{room_here, all_noted}
use Rattle.fb_tape.proofs.laying_order.note_fields_at.Goals as goal

pub loop-i-init : goal.loop-i-init
loop-i-init c = (omega arith, refl, c.requires.slots, begun c.args.offsets.now.size _ _ _ _ _)

pub overflow_add-offsets : goal.overflow_add-offsets
overflow_add-offsets c =
    let x = field_seen c.field-field.ensures.is.0 c.field-field.result in
    let next = drop_next c.args.opened.now c.loop-i.i x c.field-field.ensures.is.1 in
    let more = at_align_more c.args.align x (drop (c.loop-i.i + 1) c.args.opened.now)
    (eq-eqb _ _ c.if-field-align.false) in
    let room = room_here (rw (next, more) at c.loop-i.invariant.3) in
    omega (arith, room, c.size_of.ensures, c.requires.room)

pub tell-requires-clause-laid : goal.tell-requires-clause-laid
tell-requires-clause-laid c =
    let x = field_seen c.field-field.ensures.is.0 c.field-field.result in
    let next = drop_next c.args.opened.now c.loop-i.i x c.field-field.ensures.is.1 in
    let more = at_align_more c.args.align x (drop (c.loop-i.i + 1) c.args.opened.now)
    (eq-eqb _ _ c.if-field-align.false) in
    let room = room_here (rw (next, more) at c.loop-i.invariant.3) in
    omega (arith, room, c.size_of.ensures, c.requires.room, c.loop-i.invariant.1)

pub tell-requires-clause-room : goal.tell-requires-clause-room
tell-requires-clause-room c =
    let x = field_seen c.field-field.ensures.is.0 c.field-field.result in
    let next = drop_next c.args.opened.now c.loop-i.i x c.field-field.ensures.is.1 in
    let low = rw next at c.loop-i.invariant.2 in
    omega (arith, low 0 x (omega arith), c.loop-i.invariant.3.slots_long)

pub returns-in_err-push-clause-size : goal.returns-in_err-push-clause-size
returns-in_err-push-clause-size c = c.tell.ensures.size ∙ c.loop-i.invariant.1

pub returns-in_err-push_few-clause-size : goal.returns-in_err-push_few-clause-size
returns-in_err-push_few-clause-size c = c.tell.ensures.size ∙ c.loop-i.invariant.1

pub loop-i-preserved-then-field-align : goal.loop-i-preserved-then-field-align
loop-i-preserved-then-field-align c =
    let x = field_seen c.field-field.ensures.is.0 c.field-field.result in
    let next = drop_next c.args.opened.now c.loop-i.i x c.field-field.ensures.is.1 in
    let other = at_align_other c.args.align x (drop (c.loop-i.i + 1) c.args.opened.now)
    (ne_eqb _ _ c.if-field-align.true) in (
      c.loop-i.invariant.0,
      c.loop-i.invariant.1,
      All-tail (λ (y : OpenField). 6 + 2 * y.slot ≤ length c.args.offsets.now.vtable.items) x _
          (rw next at c.loop-i.invariant.2),
      rw (next, other) at c.loop-i.invariant.3,
    )

pub loop-i-preserved : goal.loop-i-preserved
loop-i-preserved c =
    let x = field_seen c.field-field.ensures.is.0 c.field-field.result in
    let next = drop_next c.args.opened.now c.loop-i.i x c.field-field.ensures.is.1 in
    let more = at_align_more c.args.align x (drop (c.loop-i.i + 1) c.args.opened.now)
    (eq-eqb _ _ c.if-field-align.false) in
    let now = noted (rw (next, more) at c.loop-i.invariant.3) in
    let own = c.bytes_of-own.ensures.are x c.field-field.ensures.is.1 in (
      omega (
        arith,
        c.loop-i.invariant.0,
        ap length c.in_ok-push_few.ensures.items,
        length-append c.loop-i.bytes.items c.bytes_of-own.result.now,
      ),
      c.tell.ensures.size ∙ c.loop-i.invariant.1,
      All-tail (λ (y : OpenField). 6 + 2 * y.slot ≤ length c.args.offsets.now.vtable.items) x _
          (rw next at c.loop-i.invariant.2),
      rw (
        c.in_ok-push.ensures.items,
        c.in_ok-push_few.ensures.items,
        own,
        c.tell.ensures.told,
        c.tell.ensures.laid,
        c.tell.ensures.size,
        c.size_of.ensures,
      )
          now,
    )

pub returns-clause-size : goal.returns-clause-size
returns-clause-size c = c.loop-i.invariant.1

pub returns-clause-notes : goal.returns-clause-notes
returns-clause-notes c =
    let none = drop_all c.loop-i.i c.args.opened.now (omega (arith, c.loop-i-test.false, c.len-i-end.ensures)) in
    (all_noted (rw none at c.loop-i.invariant.3) refl).0

pub returns-clause-bytes : goal.returns-clause-bytes
returns-clause-bytes c =
    let none = drop_all c.loop-i.i c.args.opened.now (omega (arith, c.loop-i-test.false, c.len-i-end.ensures)) in
    (all_noted (rw none at c.loop-i.invariant.3) refl).1

pub returns-clause-laid : goal.returns-clause-laid
returns-clause-laid c =
    let none = drop_all c.loop-i.i c.args.opened.now (omega (arith, c.loop-i-test.false, c.len-i-end.ensures)) in
    (all_noted (rw none at c.loop-i.invariant.3) refl).2

pub returns-clause-told : goal.returns-clause-told
returns-clause-told c =
    let none = drop_all c.loop-i.i c.args.opened.now (omega (arith, c.loop-i-test.false, c.len-i-end.ensures)) in
    rw (← c.loop-i.invariant.1) ((all_noted (rw none at c.loop-i.invariant.3) refl).3)
