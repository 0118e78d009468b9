use Rattle.std.proofs.Common.{◌≡◌, ◌+◌, ◌-◌, ◌*◌, List, length, drop}
use Rattle.serde_json.specs.View.{items_view, members_view}
use Rattle.fb_layout.specs.Laid.{stored_kind}
use Rattle.fb_value.specs.Datum.{Datum}
use Rattle.fb_value.specs.Room.{parts_room}
use Rattle.fb_value.specs.View.{parts_in}
use Rattle.fb_tape.specs.NamedParts.{elements_apart}
use Rattle.fb_json.specs.Meant.{items_meant, look}
use Rattle.fb_json.proofs.slots.OneSlotOrFieldMore.{after}
use Rattle.fb_build.specs.OneByOne.{EachElementFits}
use Rattle.fb_build.specs.Noted.{AddsParts}
use Rattle.fb_encode.proofs.tables.SlotsAreNoted.{AreSlotsNoted}
use Rattle.fb_encode.proofs.+notes.Given as goal

-- The levels go down, and at one level a caller ranks above what it calls.
abbrev pub decreases-tables::note_table : goal.decreases-tables::note_table
decreases-tables::note_table l = 10 * l.levels

abbrev pub decreases-parts::note_object : goal.decreases-parts::note_object
decreases-parts::note_object l = 10 * l.levels + 1

abbrev pub decreases-parts::note_target : goal.decreases-parts::note_target
decreases-parts::note_target l = 10 * l.levels + 2

abbrev pub decreases-parts::note_targets : goal.decreases-parts::note_targets
decreases-parts::note_targets l = 10 * l.levels + 3

abbrev pub decreases-parts::note_array : goal.decreases-parts::note_array
decreases-parts::note_array l = 10 * l.levels + 4

abbrev pub decreases-entries::note_member : goal.decreases-entries::note_member
decreases-entries::note_member l = 10 * l.levels + 4

abbrev pub decreases-parts::note_part : goal.decreases-parts::note_part
decreases-parts::note_part l = 10 * l.levels + 5

abbrev pub decreases-entries::note_reference : goal.decreases-entries::note_reference
decreases-entries::note_reference l = 10 * l.levels + 6

abbrev pub decreases-entries::note_present : goal.decreases-entries::note_present
decreases-entries::note_present l = 10 * l.levels + 7

abbrev pub decreases-entries::note_slot : goal.decreases-entries::note_slot
decreases-entries::note_slot l = 10 * l.levels + 8

abbrev pub invariant-parts::note_targets-loop-element : goal.invariant-parts::note_targets-loop-element
invariant-parts::note_targets-loop-element l = record {
  elements : List Datum;
  gives : items_meant l.source.layout.now l.source.unknown (items_view l.elements) l.kind l.place l.levels l.fn.left
      ≡ after elements
      (items_meant l.source.layout.now l.source.unknown (items_view (drop l.element-index l.elements)) l.kind
      l.place l.levels l.left);
  count : length elements ≡ l.element-index;
  fits : EachElementFits l.source.layout.now (stored_kind l.source.layout.now.schema l.kind) elements;
  adds : AddsParts l.fn.noting.tape l.noting.tape
      (elements_apart (stored_kind l.source.layout.now.schema l.kind) elements)
      (parts_room l.source.layout.now (stored_kind l.source.layout.now.schema l.kind) (parts_in elements));
  opened : l.noting.opened ≡ l.fn.noting.opened;
}

abbrev pub invariant-tables::note_table-loop-k : goal.invariant-tables::note_table-loop-k
invariant-tables::note_table-loop-k l = AreSlotsNoted l.source.layout.now
    (look l.source.layout.now l.source.unknown (members_view l.members.entries)) l.owner.0 l.slots l.k l.code
    (l.levels - 1) (l.fn.left - 1) l.left l.fn.noting.tape l.noting.tape l.fn.noting.opened l.noting.opened
