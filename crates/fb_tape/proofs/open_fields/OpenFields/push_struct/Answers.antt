use Rattle.std.proofs.Common.{refl, ap, arith}
use Rattle.fb_layout.specs.Laid.{struct_kind}
use Rattle.fb_value.specs.Datum.{a_struct}
use Rattle.fb_value.specs.View.{parts_view}
use Rattle.fb_tape.specs.declared.ops.NotedField.TheVariants.{Inline}
use Rattle.fb_tape.proofs.open_fields.FieldsStandInTurn.{kept_inside, fails_as_before, inline_inside}
use Rattle.fb_tape.proofs.open_fields.FieldsStandInTurn.{inline_field_added}
use Rattle.fb_tape.proofs.open_fields.SizesFit.{size_fits}
use Rattle.fb_tape.proofs.tape.AlignmentsFit.{align_fits}
use Rattle.fb_tape.proofs.open_fields.OpenFields.push_struct.Goals as goal

pub invariant_of-self-in_err-push_struct : goal.invariant_of-self-in_err-push_struct
invariant_of-self-in_err-push_struct c =
    rw c.reserve.ensures.items (kept_inside c.self.inside.fields.items c.self.inside.bytes.items
    c.push_struct.new.bytes.items c.push_struct.ensures.kept c.self.invariant)

pub returns-in_err-push_struct-clause-kept : goal.returns-in_err-push_struct-clause-kept
returns-in_err-push_struct-clause-kept c =
    fails_as_before c.from_residual-in_err-push_struct.result c.self.inside.bytes.items c.push_struct.new.bytes.items
    c.self.inside.fields.items c.reserve.new.self.items c.args.self.now c.push_struct.ensures.kept c.self.invariant
    c.reserve.ensures.items c.self.view_is

pub overflow_cast-align_of : goal.overflow_cast-align_of
overflow_cast-align_of c =
    let low = align_fits c.args.layout.now c.layout_is_well_made.ensures (struct_kind c.args.structure.0) in
    omega (arith, low, c.align_of.ensures)

pub overflow_cast-size_of : goal.overflow_cast-size_of
overflow_cast-size_of c =
    let low = size_fits c.args.layout.now c.layout_is_well_made.ensures (struct_kind c.args.structure.0) in
    omega (arith, low, c.size_of.ensures)

pub invariant_of-self-2 : goal.invariant_of-self-2
invariant_of-self-2 c =
    inline_inside c.args.layout.now (struct_kind c.args.structure.0) (a_struct (parts_view c.args.parts.now))
    c.self.inside.bytes.items c.push_struct.new.bytes.items c.self.inside.fields.items c.push_reserved.new.self.items _
    c.self.invariant c.in_ok-push_struct.ensures.adds (rw c.reserve.ensures.items at c.push_reserved.ensures.items)
    (ap (λ n. Inline n) c.size_of.ensures) (omega (arith, c.len-first.ensures))

pub returns-clause-adds : goal.returns-clause-adds
returns-clause-adds c =
    rw (← c.self.view_is) (inline_field_added c.args.layout.now c.args.slot (struct_kind c.args.structure.0)
    (a_struct (parts_view c.args.parts.now))
    c.self.inside.bytes.items c.push_struct.new.bytes.items c.self.inside.fields.items c.push_reserved.new.self.items _
    c.self.invariant c.in_ok-push_struct.ensures.adds (rw c.reserve.ensures.items at c.push_reserved.ensures.items)
    refl c.align_of.ensures
    (ap (λ n. Inline n) c.size_of.ensures) (omega (arith, c.len-first.ensures)))
