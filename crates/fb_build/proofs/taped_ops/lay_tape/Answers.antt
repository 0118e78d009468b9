use Rattle.std.proofs.Common.{◌∙◌, take, drop, slice_index_or, arith, length-drop}
use Rattle.std.proofs.lemmas.List.{drop-drop, drop_all}
use Rattle.fb_layout.specs.WellMade.{IsWellMade}
use Rattle.fb_build.specs.TapeLaid.{op_fields, op_bytes, op_vtable}
use Rattle.fb_build.specs.Steps.{Steps}
use Rattle.fb_build.proofs.tail.WhatIsLaidStaysLaid.{then_grows}
use Rattle.fb_build.proofs.taped.TapeIsLaidInTurn.{op_laid, may_lay_op, fields_within, bytes_within, no_op}
use Rattle.fb_build.proofs.taped.TapeIsLaidInTurn.{op_behind}
use Rattle.fb_build.proofs.taped_ops.lay_tape.Goals as goal

pub lay_op-passed_by-requires-clause-fields : goal.lay_op-passed_by-requires-clause-fields
lay_op-passed_by-requires-clause-fields c =
    let w = c.requires.means in
    let h = rw (op_behind c.ops-ops.result.now c.loop-i.i c.loop-i-test.true) at (c.loop-i.invariant.laid w.parts w.lay)
    in
    rw c.fields_from-fields_left.ensures.exact (fields_within h)

pub lay_op-passed_by-requires-clause-bytes : goal.lay_op-passed_by-requires-clause-bytes
lay_op-passed_by-requires-clause-bytes c =
    let w = c.requires.means in
    let h = rw (op_behind c.ops-ops.result.now c.loop-i.i c.loop-i-test.true) at (c.loop-i.invariant.laid w.parts w.lay)
    in
    rw (c.fields_from-fields_left.ensures.exact, c.bytes_from-bytes_left.ensures.exact) (bytes_within h)

pub lay_op-passed_by-requires-clause-ready : goal.lay_op-passed_by-requires-clause-ready
lay_op-passed_by-requires-clause-ready c =
    let w = c.requires.means in
    let h = rw (op_behind c.ops-ops.result.now c.loop-i.i c.loop-i-test.true) at (c.loop-i.invariant.laid w.parts w.lay)
    in
    rw (c.fields_from-fields_left.ensures.exact, c.bytes_from-bytes_left.ensures.exact)
    (may_lay_op h (rw c.requires.layout c.layout_is_well_made.ensures) c.requires.different)

pub overflow_add-at_field : goal.overflow_add-at_field
overflow_add-at_field c =
    let w = c.requires.means in
    let inv = c.loop-i.invariant in
    let h = rw (op_behind c.ops-ops.result.now c.loop-i.i c.loop-i-test.true) at (inv.laid w.parts w.lay) in
    let within = fields_within h in
    omega (
      arith,
      within,
      c.lay_op-passed_by.ensures.fields,
      length-drop c.loop-i.at_field c.fields-fields.result.now,
      inv.fields_within,
    )

pub overflow_add-at_byte : goal.overflow_add-at_byte
overflow_add-at_byte c =
    let w = c.requires.means in
    let inv = c.loop-i.invariant in
    let h = rw (op_behind c.ops-ops.result.now c.loop-i.i c.loop-i-test.true) at (inv.laid w.parts w.lay) in
    let within = bytes_within h in
    let size = rw c.fields_from-fields_left.ensures.exact at c.lay_op-passed_by.ensures.bytes in
    omega (arith, within, size, length-drop c.loop-i.at_byte c.bytes-bytes.result.now, inv.bytes_within)

pub loop-i-preserved : goal.loop-i-preserved
loop-i-preserved c =
    let w = c.requires.means in
    let inv = c.loop-i.invariant in
    let ops = c.ops-ops.result.now in
    let fields = c.fields-fields.result.now in
    let bytes = c.bytes-bytes.result.now in
    let i = c.loop-i.i in
    let f = c.loop-i.at_field in
    let b = c.loop-i.at_byte in
    let op = slice_index_or ops i no_op in
    let vtables = c.args.tape.now.vtables in
    let cons = op_behind ops i c.loop-i-test.true in
    let h = rw cons at (inv.laid w.parts w.lay) in
    let fields_left = c.fields_from-fields_left.ensures.exact in
    let bytes_left = c.bytes_from-bytes_left.ensures.exact in
    let now = c.lay_op-passed_by.ensures in
    let own = take (op_fields op) (drop f fields) in
    let size = rw fields_left at now.bytes in
    let steps : Steps op (op_vtable vtables op) own (take (op_bytes op own) (drop b bytes)) c.loop-i.laying
    c.lay_op-passed_by.new.laying =
    rw (← fields_left, ← bytes_left) now.laid in
    let long = rw fields_left at now.long in
    let made : IsWellMade c.args.tape.now.layout = rw c.requires.layout c.layout_is_well_made.ensures in
    let field_count = fields_within h in
    let byte_count = bytes_within h in
    record {
      fields_within = omega (arith, field_count, now.fields, length-drop f fields, inv.fields_within);
      bytes_within = omega (arith, byte_count, size, length-drop b bytes, inv.bytes_within);
      few = omega (arith, steps.most_waiting, inv.few);
      waiting = steps.reserved_waiting ∙ inv.waiting;
      places = steps.reserved_places ∙ inv.places;
      laid = λ qs lay.
          (rw (now.fields, size, ← drop-drop (op_fields op) f fields, ← drop-drop (op_bytes op own) b bytes)
          (op_laid (rw cons at (inv.laid qs lay)) made c.requires.different _ long steps));
      long = (let before = rw cons at inv.long in
          rw (now.fields, ← drop-drop (op_fields op) f fields, steps.come, long) before);
      most = (let before = rw cons at inv.most in rw now.most before);
      grows = then_grows _ _ _ inv.grows steps.grows;
    }

pub returns-clause-long : goal.returns-clause-long
returns-clause-long c = rw (drop_all c.loop-i.i c.ops-ops.result.now c.loop-i-test.false) at c.loop-i.invariant.long

pub returns-clause-most : goal.returns-clause-most
returns-clause-most c = rw (drop_all c.loop-i.i c.ops-ops.result.now c.loop-i-test.false) at c.loop-i.invariant.most
