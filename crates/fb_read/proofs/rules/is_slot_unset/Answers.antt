use Rattle.std.proofs.Common.{sym, ◌∙◌}
use Rattle.fb_read.proofs.places.FieldsAreTheirSlots.{unset_here, unset_past}
use Rattle.fb_read.proofs.rules.is_slot_unset.Goals as goal

pub returns-then-slot-slots : goal.returns-then-slot-slots
returns-then-slot-slots c L = rw (← c.from-slot.ensures)
    (sym (unset_past L c.args.bytes.now c.args.at _ c.args.slots.now c.if-slot-slots.true))

pub returns : goal.returns
returns c L = rw (← c.from-slot.ensures) (c.is_missing.ensures L
    ∙ sym (unset_here L c.args.bytes.now c.args.at _ c.args.slots.now c.index-slots-slot.result c.if-slot-slots.false
    c.index-slots-slot.is))
