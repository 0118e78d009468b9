-- Where each stored field of a table stands.
-- From the FlatBuffers documentation, "FlatBuffer Internals": Tables. In which order fields stand is this project's
-- own: from the table's end on by descending alignment, those of one alignment in the order of their slots.
use Rattle.std.specs.Prelude.{ℕ, ◌+◌, ◌≡◌, ◌&&◌, Bool, true, List, Option}
use Rattle.std.specs.Prelude.{Some, slice_get, slice_index}
use Rattle.fb_layout.specs.Laid.{LaidSchema, Slot}
use Rattle.fb_value.specs.Datum.{Datum}
pub use Rattle.fb_tape.specs.Vtables.{stored_end}
use Rattle.fb_build.specs.Fields.{is_stored}

-- Slots that are stored and pass a test have their end-counts, from `base` on.
abbrev pub AreCounted : LaidSchema → ℕ → (ℕ → Slot → Bool) → List Slot → List (Option Datum) → List ℕ → Type 0
AreCounted L base laid fs xs ends = (k : ℕ) (f : Slot) (x : Option Datum) → slice_get fs k ≡ Some f
    → slice_get xs k ≡ Some x → (is_stored f x && laid k f) ≡ true → slice_index ends k ≡ base + stored_end L fs xs k f
