use Rattle.std.proofs.Common.{◌≡◌, length, arith, rules}
use Rattle.fb_layout.specs.Laid.{stored_shape}
use Rattle.fb_owned.proofs.rooms.RoomIsThatOfTheParts.{room_end, vector_known, table_known}
use Rattle.fb_owned.proofs.rooms.+room.Goals as goal

pub room_in-returns-in-Many : goal.room_in-returns-in-Many
room_in-returns-in-Many t c =
    let L = c.args.layout.now in
    let long : c.len.result ≡ length c.in-Items.items.items = search rules in
    let known = vector_known L c.args.shape c.in-Many.kind c.args.value.now c.in-Items.items c.len.result
    c.in-Many.is c.in-Items.is long in
    let inner = rw c.deref-in-Many.ensures.value at c.room_in_parts.ensures in
    rw known (omega (arith, c.vector_room-own.ensures, inner, c.saturating_add.ensures))

pub room_in-returns-in-Fields : goal.room_in-returns-in-Fields
room_in-returns-in-Fields t c =
    let L = c.args.layout.now in
    let slots = c.slots_of-slots.result.now in
    let known = table_known L (stored_shape L.schema c.args.shape) c.args.value.now c.in-Fields.owner
    c.in-Fields.entries slots c.in-Fields.is c.slots_of-slots.ensures.slots in
    let inner = rw c.deref-in-Fields.ensures.value at c.room_in_entries.ensures in
    rw known (omega (arith, c.table_room-own.ensures, inner, c.saturating_add-in-Fields.ensures))

pub room_in_entries-returns : goal.room_in_entries-returns
room_in_entries-returns t c =
    let done = rw (room_end c.args.layout.now c.args.slots.now c.args.entries.now c.loop-i.i (omega arith))
    at c.loop-i.invariant.1 in
    omega (arith, done, c.loop-i.invariant.0)
