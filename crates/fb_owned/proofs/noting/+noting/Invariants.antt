use Rattle.std.proofs.Common.{◌≡◌, ◌+◌, ◌*◌, map, take}
use Rattle.fb_value.specs.Room.{parts_room}
use Rattle.fb_value.specs.View.{view, parts_in}
use Rattle.fb_tape.specs.NamedParts.{elements_apart}
use Rattle.fb_build.specs.Fields.{kind_seen, slots_seen, entries_seen}
use Rattle.fb_build.specs.Noted.{AddsParts}
use Rattle.fb_owned.proofs.noting.SlotsAreNoted.{AreNotedUpTo}
use Rattle.fb_owned.proofs.noting.+noting.Given as goal

abbrev pub invariant-note_entries-loop-k : goal.invariant-note_entries-loop-k
invariant-note_entries-loop-k l = AreNotedUpTo l.layout (slots_seen l.layout l.slots) (entries_seen l.entries) l.k
    l.fn.noting.tape l.noting.tape l.fn.noting.opened l.noting.opened

abbrev pub invariant-note_targets-loop-item : goal.invariant-note_targets-loop-item
invariant-note_targets-loop-item l = record {
  adds : AddsParts l.fn.noting.tape l.noting.tape
      (elements_apart (kind_seen l.layout l.kind) (map view (take l.item-index l.items)))
      (parts_room l.layout (kind_seen l.layout l.kind) (parts_in (map view (take l.item-index l.items))));
  opened : l.noting.opened ≡ l.fn.noting.opened;
}

-- The depth goes down, and at one depth a caller ranks above what it calls.
abbrev pub decreases-note_part : goal.decreases-note_part
decreases-note_part l = 4 * goal.size-note_part l

abbrev pub decreases-note_member : goal.decreases-note_member
decreases-note_member l = 4 * goal.size-note_member l

abbrev pub decreases-note_targets : goal.decreases-note_targets
decreases-note_targets l = 4 * goal.size-note_targets l + 1

abbrev pub decreases-note_items : goal.decreases-note_items
decreases-note_items l = 4 * goal.size-note_items l + 2

abbrev pub decreases-note_entry : goal.decreases-note_entry
decreases-note_entry l = 4 * goal.size-note_entry l + 1

abbrev pub decreases-note_entries : goal.decreases-note_entries
decreases-note_entries l = 4 * goal.size-note_entries l + 2

abbrev pub decreases-note_table : goal.decreases-note_table
decreases-note_table l = 4 * goal.size-note_table l + 3
