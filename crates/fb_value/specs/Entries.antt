-- What holds of one entry of a table and its slot.
use Rattle.std.specs.Prelude.{ℕ, ◌≡◌, false, Option, None, Some}
use Rattle.fb_layout.specs.Laid.{LaidSchema, Slot}
use Rattle.fb_value.specs.Datum.{Datum}
use Rattle.fb_value.specs.Fits.{MayBeAbsent, Fits}
use Rattle.fb_value.specs.Room.{room}

abbrev pub EntryFits : LaidSchema → Slot → Option Datum → Type 0
EntryFits L f None = MayBeAbsent f
EntryFits L f (Some d) = (f.deprecated ≡ false) × Fits L f.shape d

abbrev pub entry_room : LaidSchema → Slot → Option Datum → ℕ
entry_room L f None = 0
entry_room L f (Some d) = room L f.shape d
