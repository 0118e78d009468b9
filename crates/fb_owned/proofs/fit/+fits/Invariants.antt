use Rattle.std.proofs.Common.{◌↔◌, ◌+◌, ◌*◌, drop}
use Rattle.fb_layout.specs.Laid.{stored_kind}
use Rattle.fb_value.specs.View.{parts_view, entries_view}
use Rattle.fb_value.specs.Fits.{PartsFit, EachFits, EntriesFit}
use Rattle.fb_owned.proofs.rooms.RoomIsThatOfTheParts.{slots_seen}
use Rattle.fb_layout.specs.Seen.{kinds_seen}
use Rattle.fb_owned.proofs.fit.+fits.Given as goal

abbrev pub invariant-each_fits-loop-item : goal.invariant-each_fits-loop-item
invariant-each_fits-loop-item l =
    EachFits l.layout (stored_kind l.layout.schema l.kind) (parts_view (drop l.item-index l.items))
    ↔ EachFits l.layout (stored_kind l.layout.schema l.kind) (parts_view l.items)

abbrev pub invariant-parts_fit-loop-i : goal.invariant-parts_fit-loop-i
invariant-parts_fit-loop-i l = PartsFit l.layout (kinds_seen l.layout (drop l.i l.fields))
    (parts_view (drop l.i l.parts)) ↔ PartsFit l.layout (kinds_seen l.layout l.fields) (parts_view l.parts)

abbrev pub invariant-entries_fit-loop-i : goal.invariant-entries_fit-loop-i
invariant-entries_fit-loop-i l = EntriesFit l.layout (slots_seen l.layout (drop l.i l.slots))
    (entries_view (drop l.i l.entries)) ↔ EntriesFit l.layout (slots_seen l.layout l.slots)
    (entries_view l.entries)

-- The depth goes down, and at one depth a caller ranks above what it calls.
abbrev pub decreases-fits_in : goal.decreases-fits_in
decreases-fits_in l = 3 * goal.size-fits_in l

abbrev pub decreases-each_fits : goal.decreases-each_fits
decreases-each_fits l = 3 * goal.size-each_fits l + 1

abbrev pub decreases-parts_fit : goal.decreases-parts_fit
decreases-parts_fit l = 3 * goal.size-parts_fit l + 1

abbrev pub decreases-entry_fits : goal.decreases-entry_fits
decreases-entry_fits l = 3 * goal.size-entry_fits l + 1

abbrev pub decreases-entries_fit : goal.decreases-entries_fit
decreases-entries_fit l = 3 * goal.size-entries_fit l + 2
