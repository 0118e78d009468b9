use Rattle.std.proofs.Common.{◌≡◌, map, sym, ap}
use Rattle.fb_layout.specs.Laid.{slot_of, slots_of}
use Rattle.fb_read.specs.Visits.{slots_seen}
use Rattle.fb_read.proofs.view.AccessorsReadTheEntry.{entry_past, entry_stored}
use Rattle.fb_read.proofs.view.View.stored.Goals as goal

pub returns-then-slot-slots-clause-stands : goal.returns-then-slot-slots-clause-stands
returns-then-slot-slots-clause-stands c d lies =
    let L = c.args.self.layout.now in
    let seen : slots_of L c.args.self.table.0 ≡ slots_seen L c.slots_of-slots.result.now =
    ap (λ fs. map (slot_of L.schema) fs) (sym c.slots_of-slots.ensures.slots) in
    rw (← c.from-slot.ensures) (entry_past L c.args.self.bytes.now c.args.self.table.0 c.args.self.at
    c.slots_of-slots.result.now d c.from-slot.result seen c.if-slot-slots.true lies)

pub returns-clause-stands : goal.returns-clause-stands
returns-clause-stands c d lies =
    let L = c.args.self.layout.now in
    let seen : slots_of L c.args.self.table.0 ≡ slots_seen L c.slots_of-slots.result.now =
    ap (λ fs. map (slot_of L.schema) fs) (sym c.slots_of-slots.ensures.slots) in
    let place = rw c.split_at.ensures.back at c.stored_in.ensures.place in
    rw (← c.from-slot.ensures) (entry_stored L c.args.self.bytes.now c.args.self.table.0 c.args.self.at
    c.slots_of-slots.result.now d c.from-slot.result c.index-slots-slot.result c.stored_in.result seen
    c.if-slot-slots.false c.index-slots-slot.is lies place c.stored_in.ensures.default)
