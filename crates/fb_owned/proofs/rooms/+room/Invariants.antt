use Rattle.std.proofs.Common.{◌≡◌, ◌+◌, ◌*◌, ◌<◌, ◌^◌, drop, map}
use Rattle.fb_schema.specs.Seen.{field_seen}
use Rattle.fb_layout.specs.Laid.{stored_kind, slot_of}
use Rattle.fb_value.specs.UpTo.{at_most_usize}
use Rattle.fb_value.specs.View.{parts_view, entries_view}
use Rattle.fb_value.specs.Room.{parts_room, entries_room}
use Rattle.fb_owned.proofs.rooms.+room.Given as goal

abbrev pub invariant-room_in_parts-loop-part : goal.invariant-room_in_parts-loop-part
invariant-room_in_parts-loop-part l = (l.total < 2 ^ 64)
    × (at_most_usize (l.total + parts_room l.layout (stored_kind l.layout.schema l.kind)
    (parts_view (drop l.part-index l.parts)))
    ≡ at_most_usize (parts_room l.layout (stored_kind l.layout.schema l.kind) (parts_view l.parts)))

abbrev pub invariant-room_in_entries-loop-i : goal.invariant-room_in_entries-loop-i
invariant-room_in_entries-loop-i l = (l.total < 2 ^ 64)
    × (at_most_usize (l.total + entries_room l.layout
    (map (slot_of l.layout.schema) (map field_seen (drop l.i l.slots))) (entries_view (drop l.i l.entries)))
    ≡ at_most_usize (entries_room l.layout (map (slot_of l.layout.schema) (map field_seen l.slots))
    (entries_view l.entries)))

-- The depth goes down, and at one depth a caller ranks above what it calls.
abbrev pub decreases-room_in : goal.decreases-room_in
decreases-room_in l = 3 * goal.size-room_in l

abbrev pub decreases-room_in_parts : goal.decreases-room_in_parts
decreases-room_in_parts l = 3 * goal.size-room_in_parts l + 1

abbrev pub decreases-room_in_entry : goal.decreases-room_in_entry
decreases-room_in_entry l = 3 * goal.size-room_in_entry l + 1

abbrev pub decreases-room_in_entries : goal.decreases-room_in_entries
decreases-room_in_entries l = 3 * goal.size-room_in_entries l + 2
