use Rattle.std.proofs.Common.{◌+◌, drop, map, refl, arith}
use Rattle.std.proofs.lemmas.List.{drop_all}
use Rattle.fb_schema.specs.Alignments.{greatest_in}
use Rattle.fb_tape.specs.OpenFields.{OpenField}
use Rattle.fb_tape.specs.OpenList.{field_seen}
use Rattle.fb_tape.proofs.stored_tables.FieldsInTurn.{drop_next, max_again, taken_more}
use Rattle.fb_tape.proofs.stored_tables.extent_of.Goals as goal

pub loop-i-init : goal.loop-i-init
loop-i-init c = record { size = omega arith; align = refl }

pub overflow_add-size : goal.overflow_add-size
overflow_add-size c =
    let x = field_seen c.field-field.ensures.is.0 c.field-field.result in
    let next = drop_next c.args.opened.now c.loop-i.i x c.field-field.ensures.is.1 in
    let more = taken_more x (drop (c.loop-i.i + 1) c.args.opened.now) in
    omega (arith, rw next at c.loop-i.invariant.size, more, c.size_of-size.ensures, c.requires.small)

pub loop-i-preserved : goal.loop-i-preserved
loop-i-preserved c =
    let x = field_seen c.field-field.ensures.is.0 c.field-field.result in
    let next = drop_next c.args.opened.now c.loop-i.i x c.field-field.ensures.is.1 in
    let more = taken_more x (drop (c.loop-i.i + 1) c.args.opened.now) in
    record {
      size = omega (arith, rw next at c.loop-i.invariant.size, more, c.size_of-size.ensures);
      align = rw c.max-align.ensures (max_again c.loop-i.align x.align
          (greatest_in (map (λ (y : OpenField). y.align) (drop (c.loop-i.i + 1) c.args.opened.now))) _
          (rw next at c.loop-i.invariant.align));
    }

pub returns : goal.returns
returns c =
    let none = drop_all c.loop-i.i c.args.opened.now (omega (arith, c.loop-i-test.false, c.len-i-end.ensures)) in
    record {
      size = omega (arith, rw none at c.loop-i.invariant.size);
      align = omega (arith, rw none at c.loop-i.invariant.align);
    }
