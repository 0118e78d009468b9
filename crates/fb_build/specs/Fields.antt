-- The fields of a table while it is laid: what each slot's end-count says.
use Rattle.std.specs.Prelude.{ℕ, ◌≡◌, ◌<◌, List, Bool, true, false, Option, None, Some, slice_get, slice_index}
use Rattle.fb_layout.specs.Laid.{LaidSchema, Slot}
use Rattle.fb_value.specs.Datum.{Datum}
use Rattle.fb_value.specs.Num.{Bytes}
use Rattle.fb_value.specs.Places.{Target, part_place}
use Rattle.fb_build.specs.Tails.{LaidInTail}
pub use Rattle.fb_tape.specs.StoredFields.{shape_seen, kind_seen, slot_seen, slots_seen, IsStructThere, IsElement}
pub use Rattle.fb_tape.specs.StoredFields.{IsSimple, code_in, next_code, coded, stored_here, stored_in, member_target}
pub use Rattle.fb_tape.specs.StoredFields.{target_for, inline_kind, is_reference, ref_or, sort_for, scalar_in}
pub use Rattle.fb_tape.specs.StoredFields.{number_in, number_of_datum, above, from, is_at}
pub use Rattle.fb_tape.specs.StoredFields.{size_if_at, align_if_stored, size_at, size_above, entry_stored, is_coded}
pub use Rattle.fb_tape.specs.StoredFields.{entries_seen, stored_seen, SlotFits, StoredFits, AreSimple}
pub use Rattle.fb_tape.specs.StoredFields.{AreKnown, fields_size, stored_align, stored_room}
pub use Rattle.fb_tape.specs.Defaults.{differs, is_stored, HasDefault}

abbrev pub TargetEnd : LaidSchema → ℕ → Bytes → Option Target → ℕ → Datum → Type 0
TargetEnd L m s None e d = Unit {0}
TargetEnd L m s (Some X) e d = LaidInTail L m s (part_place X) e d

-- The end-count of a stored slot: of its field once that is laid, which is after `low`, of what it names before.
abbrev pub StoredEnd : LaidSchema → ℕ → ℕ → Bytes → Bool → Slot → Option Datum → ℕ → Type 0
StoredEnd L low m s laid f None e = ⊥
StoredEnd L low m s true f (Some d) e = (low < e) × LaidInTail L m s (sort_for f.shape d) e d
StoredEnd L low m s false f (Some d) e = TargetEnd L m s (target_for f.shape d) e d

-- 0 for a slot that isn't stored
pub record EntryEnd (L : LaidSchema) (low m : ℕ) (s : Bytes) (laid : Bool) (f : Slot) (x : Option Datum)
    (e : ℕ) : Type 0 where
  pub stored : is_stored f x ≡ true → StoredEnd L low m s laid f x e
  pub absent : is_stored f x ≡ false → e ≡ 0

-- the end-counts of all slots of a table; before slot `done` by the one test, from there on by the other
abbrev pub EntriesEnd : LaidSchema → ℕ → ℕ → Bytes → (ℕ → Slot → Bool) → List Slot → List (Option Datum) → List ℕ
    → Type 0
EntriesEnd L low m s laid fs xs ends =
    (k : ℕ) (f : Slot) (x : Option Datum) → slice_get fs k ≡ Some f → slice_get xs k ≡ Some x
    → EntryEnd L low m s (laid k f) f x (slice_index ends k)
