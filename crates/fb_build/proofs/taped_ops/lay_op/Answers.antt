use Rattle.std.proofs.Common.{◌≡◌, ℕ, ◌≤◌, List, [], Some, length, slice_get, take, arith}
use Rattle.std.proofs.lemmas.List.{length-take-le}
use Rattle.std.proofs.lemmas.Option.{slice_get_within}
use Rattle.fb_value.specs.Num.{Bytes}
use Rattle.fb_tape.specs.declared.ops.Alignment.{Alignment}
use Rattle.fb_tape.specs.declared.ops.NotedField.{NotedField}
use Rattle.fb_tape.specs.declared.ops.Op.{Op}
use Rattle.fb_tape.specs.declared.ops.Op.TheVariants.{Data, References, Table}
use Rattle.fb_build.specs.Steps.{Steps}
use Rattle.fb_build.specs.TapeLaid.{notes_bytes, op_bytes, op_fields, op_vtable}
use Rattle.fb_build.specs.declared.laying.Laying.{Laying}
use Rattle.fb_build.proofs.taped_ops.lay_op.Goals as goal

pub new-vtable-requires : goal.new-vtable-requires
new-vtable-requires c =
    let t = rw c.in-Table.is at c.requires.ready.may.lays in
    record { within = slice_get_within c.args.tape.now.vtables c.in-Table.vtable _ t.vtable_is }

pub lay_table-requires-clause-places : goal.lay_table-requires-clause-places
lay_table-requires-clause-places c last =
    let t = rw c.in-Table.is at c.requires.ready.may.lays in
    let low = slice_get_within c.args.tape.now.vtables c.in-Table.vtable _ t.vtable_is in
    omega (arith, low, last, c.requires.places)

-- ---- what was laid is the operation

module _ (vtables : List Bytes) (op : Op) (fields : List NotedField) (bytes : Bytes) (a b : Laying) where
  data_laid : (align : Alignment) (size : ℕ) → op ≡ Data align size → size ≤ length bytes
      → Steps (Data align (length (take size bytes))) [] [] (take size bytes) a b
      → Steps op (op_vtable vtables op) (take (op_fields op) fields)
      (take (op_bytes op (take (op_fields op) fields)) bytes) a b
  data_laid align size is few h = rw is (rw (length-take-le size bytes few) at h)

  references_laid : (count : ℕ) → op ≡ References count → Steps (References count) [] [] [] a b
      → Steps op (op_vtable vtables op) (take (op_fields op) fields)
      (take (op_bytes op (take (op_fields op) fields)) bytes) a b
  references_laid count is h = rw is h

  table_laid : (align : Alignment) (count number taken : ℕ) (vtable : Bytes) → op ≡ Table align count number
      → count ≤ length fields → taken ≡ notes_bytes (take count fields) → slice_get vtables number ≡ Some vtable
      → Steps (Table align (length (take count fields)) number) vtable (take count fields) (take taken bytes) a b
      → Steps op (op_vtable vtables op) (take (op_fields op) fields)
      (take (op_bytes op (take (op_fields op) fields)) bytes) a b
  table_laid align count number taken vtable is few size there h =
      rw (is, there, ← size) (rw (length-take-le count fields few) at h)

pub returns-in-Data-clause-laid : goal.returns-in-Data-clause-laid
returns-in-Data-clause-laid c =
    data_laid c.args.tape.now.vtables c.args.op c.args.fields.now c.args.bytes.now c.args.laying.now
    c.lay_data.new.laying c.in-Data.align c.in-Data.size c.in-Data.is (rw c.in-Data.is at c.requires.bytes)
    c.lay_data.ensures.laid

pub returns-in-References-clause-laid : goal.returns-in-References-clause-laid
returns-in-References-clause-laid c =
    references_laid c.args.tape.now.vtables c.args.op c.args.fields.now c.args.bytes.now c.args.laying.now
    c.lay_references.new.laying c.in-References.count c.in-References.is c.lay_references.ensures.laid

pub returns-in-Table-clause-laid : goal.returns-in-Table-clause-laid
returns-in-Table-clause-laid c =
    table_laid c.args.tape.now.vtables c.args.op c.args.fields.now c.args.bytes.now c.args.laying.now
    c.lay_table.new.laying c.in-Table.align c.in-Table.count c.in-Table.vtable c.count_notes-taken.result.bytes
    c.new-vtable.result c.in-Table.is (rw c.in-Table.is at c.requires.fields) c.count_notes-taken.ensures.bytes
    c.new-vtable.ensures.is c.lay_table.ensures.laid
