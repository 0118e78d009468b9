-- Entries that fit the slots of a table, and are whole.
use Rattle.std.specs.Prelude.{ℕ, ◌≡◌, true, Option, None, Some, List, length, slice_get}
use Rattle.fb_layout.specs.Laid.{LaidSchema, Slot}
use Rattle.fb_value.specs.Datum.{Datum}
use Rattle.fb_value.specs.Counts.{is_whole}
use Rattle.fb_value.specs.Entries.{EntryFits}
use Rattle.fb_build.specs.Fields.{AreKnown, stored_in}
use Rattle.fb_build.specs.Paired.{ArePaired}

abbrev pub EntryWhole : Option Datum → Type 0
EntryWhole None = Unit {0}
EntryWhole (Some d) = is_whole d ≡ true

-- Slots and their entries fit each other, and so does what is stored.
pub record TableKnown (L : LaidSchema) (fs : List Slot) (xs : List (Option Datum)) : Type 0 where
  pub long : length fs ≡ length xs
  pub paired : ArePaired fs
  pub fits : (k : ℕ) (f : Slot) (x : Option Datum) → slice_get fs k ≡ Some f → slice_get xs k ≡ Some x → EntryFits L f x
  pub whole : (k : ℕ) (x : Option Datum) → slice_get xs k ≡ Some x → EntryWhole x
  pub known : AreKnown L fs (stored_in fs xs)
