-- Entries of a table and elements of a vector that fit, one by one.
use Rattle.std.specs.Prelude.{ℕ, ◌≡◌, true, List, Option, Some, slice_get}
use Rattle.fb_layout.specs.Laid.{LaidSchema, Slot, StoredKind, one_of}
use Rattle.fb_value.specs.Counts.{is_whole}
use Rattle.fb_value.specs.Datum.{Datum}
use Rattle.fb_value.specs.Entries.{EntryFits}
use Rattle.fb_value.specs.Fits.{Fits}
use Rattle.fb_build.specs.Parts.{EntryWhole}

-- Each entry fits its slot.
abbrev pub EachEntryFits : LaidSchema → List Slot → List (Option Datum) → Type 0
EachEntryFits L fs xs = (k : ℕ) (f : Slot) (x : Option Datum) → slice_get fs k ≡ Some f → slice_get xs k ≡ Some x
    → EntryFits L f x × EntryWhole x

-- Each element is one of the kind.
abbrev pub EachElementFits : LaidSchema → StoredKind → List Datum → Type 0
EachElementFits L kind ds = (k : ℕ) (d : Datum) → slice_get ds k ≡ Some d
    → Fits L (one_of kind) d × (is_whole d ≡ true)
