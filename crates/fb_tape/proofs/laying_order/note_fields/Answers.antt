use Rattle.std.proofs.Common.{◌∙◌, ◌<◌, ◌≤◌, ◌+◌, drop, length, length-append, refl, ap, arith}
use Rattle.std.proofs.lemmas.List.{length-drop}
use Rattle.fb_tape.specs.StoredTables.{at_align, in_order, notes_of}
use Rattle.fb_tape.proofs.laying_order.AllIsInOrder.{all_counted}
use Rattle.fb_tape.proofs.laying_order.LowAlignmentsAreLeft.{fields_below, begins, falls, falls_on, falls_next}
use Rattle.fb_tape.proofs.laying_order.LowAlignmentsAreLeft.{none_falls}
use Rattle.fb_tape.proofs.stored_tables.FieldsInTurn.{taken_both}
use Rattle.fb_tape.proofs.laying_order.note_fields.Goals as goal

pub loop-notes-init : goal.loop-notes-init
loop-notes-init c = record {
  size = refl;
  grown = omega arith;
  more = omega arith;
  left = begins c.args.greatest c.requires.power (drop c.args.first c.args.opened.now) c.requires.greatest _ _ _ _ _;
}

pub note_fields_at-requires-clause-room : goal.note_fields_at-requires-clause-room
note_fields_at-requires-clause-room c =
    let opens = drop c.args.first c.args.opened.now in
    let few : length c.loop-notes.notes.items < length c.args.notes.now.items + length (in_order opens) = omega (
      arith,
      c.loop-notes-test.true,
      c.len-in-loop-notes.ensures,
      c.len-before.ensures,
      c.len.ensures.exact,
      c.loop-notes.invariant.more,
      c.requires.within,
      all_counted opens c.requires.aligned,
      length-drop c.args.first c.args.opened.now,
    ) in
    let on = falls_on c.loop-notes.invariant.left few in
    let both = taken_both (at_align c.loop-notes.align opens) (fields_below on.exponent opens) in
    omega (arith, on.noting.laid_are, both, c.requires.room, c.loop-notes.invariant.size)

pub note_fields_at-requires-clause-slots : goal.note_fields_at-requires-clause-slots
note_fields_at-requires-clause-slots c = rw c.loop-notes.invariant.left.noting.slots_long c.requires.slots

pub loop-notes-smaller : goal.loop-notes-smaller
loop-notes-smaller c =
    let opens = drop c.args.first c.args.opened.now in
    let few : length c.loop-notes.notes.items < length c.args.notes.now.items + length (in_order opens) = omega (
      arith,
      c.loop-notes-test.true,
      c.len-in-loop-notes.ensures,
      c.len-before.ensures,
      c.len.ensures.exact,
      c.loop-notes.invariant.more,
      c.requires.within,
      all_counted opens c.requires.aligned,
      length-drop c.args.first c.args.opened.now,
    ) in
    let on = falls_on c.loop-notes.invariant.left few in
    rw on.align_is (falls on.exponent)

pub loop-notes-preserved : goal.loop-notes-preserved
loop-notes-preserved c =
    let opens = drop c.args.first c.args.opened.now in
    let few : length c.loop-notes.notes.items < length c.args.notes.now.items + length (in_order opens) = omega (
      arith,
      c.loop-notes-test.true,
      c.len-in-loop-notes.ensures,
      c.len-before.ensures,
      c.len.ensures.exact,
      c.loop-notes.invariant.more,
      c.requires.within,
      all_counted opens c.requires.aligned,
      length-drop c.args.first c.args.opened.now,
    ) in
    let on = falls_on c.loop-notes.invariant.left few in
    let now = c.in_ok-note_fields_at.ensures in
    let same = c.note_fields_at.ensures.size in
    record {
      size = same ∙ c.loop-notes.invariant.size;
      grown = omega (arith, c.loop-notes.invariant.grown, c.note_fields_at.ensures.grown);
      more = omega (
        arith,
        c.loop-notes.invariant.more,
        ap length now.notes,
        length-append c.loop-notes.notes.items (notes_of (at_align c.loop-notes.align opens)),
      );
      left = rw same (falls_next on now.notes now.bytes now.laid now.told
          c.note_fields_at.ensures.slots);
    }

pub returns-clause-notes : goal.returns-clause-notes
returns-clause-notes c =
    let opens = drop c.args.first c.args.opened.now in
    let many : length c.args.notes.now.items + length (in_order opens) ≤ length c.loop-notes.notes.items = omega (
      arith,
      c.loop-notes-test.false,
      c.len-in-loop-notes.ensures,
      c.len-before.ensures,
      c.len.ensures.exact,
      c.loop-notes.invariant.more,
      c.requires.within,
      all_counted opens c.requires.aligned,
      length-drop c.args.first c.args.opened.now,
    ) in
    (none_falls c.loop-notes.invariant.left many).0

pub returns-clause-bytes : goal.returns-clause-bytes
returns-clause-bytes c =
    let opens = drop c.args.first c.args.opened.now in
    let many : length c.args.notes.now.items + length (in_order opens) ≤ length c.loop-notes.notes.items = omega (
      arith,
      c.loop-notes-test.false,
      c.len-in-loop-notes.ensures,
      c.len-before.ensures,
      c.len.ensures.exact,
      c.loop-notes.invariant.more,
      c.requires.within,
      all_counted opens c.requires.aligned,
      length-drop c.args.first c.args.opened.now,
    ) in
    (none_falls c.loop-notes.invariant.left many).1

pub returns-clause-told : goal.returns-clause-told
returns-clause-told c =
    let opens = drop c.args.first c.args.opened.now in
    let many : length c.args.notes.now.items + length (in_order opens) ≤ length c.loop-notes.notes.items = omega (
      arith,
      c.loop-notes-test.false,
      c.len-in-loop-notes.ensures,
      c.len-before.ensures,
      c.len.ensures.exact,
      c.loop-notes.invariant.more,
      c.requires.within,
      all_counted opens c.requires.aligned,
      length-drop c.args.first c.args.opened.now,
    ) in
    rw (← c.loop-notes.invariant.size)
    ((none_falls c.loop-notes.invariant.left many).3)
