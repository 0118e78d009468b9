use Rattle.std.proofs.Common.{[], None, refl, ap, arith}
use mir.Facts.{to_z-of_z}
use Rattle.fb_layout.specs.Laid.{LaidSchema, scalar_kind}
use Rattle.fb_value.specs.Datum.{a_number}
use Rattle.fb_tape.specs.declared.ops.NotedField.TheVariants.{Inline}
use Rattle.fb_tape.proofs.open_fields.FieldsStandInTurn.{inline_inside, inline_field_added}
use Rattle.fb_tape.proofs.open_fields.OpenFields.push_number.Goals as goal

-- A number is the same under each layout, so also under an empty one.
abbrev empty : LaidSchema
empty = record { schema = record { types = []; root = 0; identifier = None }; structs = [] }

pub invariant_of-self-2 : goal.invariant_of-self-2
invariant_of-self-2 c =
    inline_inside empty (scalar_kind c.args.base) _ c.self.inside.bytes.items c.push_number.new.bytes.items
    c.self.inside.fields.items c.push_reserved.new.self.items _ c.self.invariant
    (c.in_ok-push_number.ensures.adds empty)
    (rw c.reserve.ensures.items at c.push_reserved.ensures.items) (ap (λ n. Inline n) c.size-size.ensures)
    (omega (arith, c.len-first.ensures))

pub returns-clause-adds : goal.returns-clause-adds
returns-clause-adds c L =
    rw (← c.self.view_is) (inline_field_added L c.args.slot (scalar_kind c.args.base) (a_number c.args.number)
    c.self.inside.bytes.items c.push_number.new.bytes.items c.self.inside.fields.items c.push_reserved.new.self.items _
    c.self.invariant (rw (to_z-of_z c.ranges.number) at c.in_ok-push_number.ensures.adds L)
    (rw c.reserve.ensures.items at c.push_reserved.ensures.items) refl c.size-size.ensures
    (ap (λ n. Inline n) c.size-size.ensures) (omega (arith, c.len-first.ensures)))
