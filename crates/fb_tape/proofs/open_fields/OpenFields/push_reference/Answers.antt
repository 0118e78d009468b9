use Rattle.std.proofs.Common.{length, arith}
use Rattle.fb_tape.proofs.open_fields.FieldsStandInTurn.{turn_more}
use Rattle.fb_tape.proofs.open_fields.OpenFields.push_reference.Goals as goal

pub invariant_of-self-2 : goal.invariant_of-self-2
invariant_of-self-2 c =
    rw (c.push_reserved.ensures.items, c.reserve.ensures.items)
    (turn_more 0 c.self.inside.fields.items _ (length c.self.inside.bytes.items) (length c.self.inside.bytes.items)
    c.self.invariant (omega (arith, c.len-first.ensures)) (omega (arith, c.len-first.ensures)))
