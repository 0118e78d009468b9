use Rattle.std.proofs.Common.{length, ap, arith}
use Rattle.fb_tape.proofs.open_fields.FieldsStandInTurn.{found_field, bytes_read, ends_within}
use Rattle.fb_tape.proofs.open_fields.OpenFields.bytes_of.Goals as goal

pub overflow_add-end : goal.overflow_add-end
overflow_add-end c =
    let at = found_field c.self.inside.bytes.items c.self.inside.fields.items c.args.self.now c.args.index
    c.index-field.result.now c.self.view_is c.requires.within c.index-field.ensures in
    let ends = ends_within 0 c.self.inside.fields.items c.args.index c.index-field.result.now
    (length c.self.inside.bytes.items) at c.self.invariant in
    omega (arith, ends, c.own_size.ensures)

pub slice_bounds-result-end : goal.slice_bounds-result-end
slice_bounds-result-end c =
    let at = found_field c.self.inside.bytes.items c.self.inside.fields.items c.args.self.now c.args.index
    c.index-field.result.now c.self.view_is c.requires.within c.index-field.ensures in
    let ends = ends_within 0 c.self.inside.fields.items c.args.index c.index-field.result.now
    (length c.self.inside.bytes.items) at c.self.invariant in
    omega (arith, ends, c.own_size.ensures, ap length c.deref.ensures.value)

pub returns : goal.returns
returns c =
    let at = found_field c.self.inside.bytes.items c.self.inside.fields.items c.args.self.now c.args.index
    c.index-field.result.now c.self.view_is c.requires.within c.index-field.ensures in
    record {
      are = λ x is. bytes_read c.self.inside.bytes.items c.deref.result.now c.self.inside.fields.items c.args.self.now
          c.args.index c.own_size.result c.index-field.result.now x c.self.view_is at c.deref.ensures.value
          c.own_size.ensures is;
    }
