-- What a slot that is read gives, and that it is noted.
use Rattle.std.specs.Prelude.{ℕ, Bool, Option, Some, Result, Ok, Err}
use Rattle.serde_json.specs.Data.{Data}
use Rattle.fb_schema.specs.Seen.{field_seen}
use Rattle.fb_layout.specs.Laid.{LaidSchema}
use Rattle.fb_layout.specs.Seen.{slot_seen}
use Rattle.fb_value.specs.Datum.{Datum}
use Rattle.fb_value.specs.declared.values.Value.{Value}
use Rattle.fb_json.specs.declared.faults.JsonFault.{JsonFault}
use Rattle.fb_json.specs.Meant.{meant, slot_place, used_meant}
use Rattle.fb_json.specs.Outcome.{Counted}
use Rattle.fb_build.specs.declared.noting.Noting.{Noting}
use Rattle.fb_encode.specs.declared.entries.SlotRead.{SlotRead}
use Rattle.fb_encode.specs.TreesNoted.{IsEntryNoted, entry_given}

-- its entry, by its member, if it has one
abbrev pub slot_given : LaidSchema → Bool → SlotRead → Option Data → ℕ → ℕ → Counted (Option Datum)
slot_given L unknown slot o levels left = entry_given L unknown (field_seen slot.field.now) o
    (slot_place slot.owner.0 slot.number) slot.code levels left

-- the same where it is in use, and has a member that isn't null
abbrev pub present_given : LaidSchema → Bool → SlotRead → Data → ℕ → ℕ → Counted (Option Datum)
present_given L unknown slot t levels left = used_meant L (field_seen slot.field.now) slot.code
    (Some (meant L unknown t)) (slot_place slot.owner.0 slot.number) levels left slot.field.now.shape

-- The entry is noted, and so many cells are left.
abbrev pub NotesSlot : LaidSchema → SlotRead → Counted (Option Datum) → Noting → Noting → ℕ → Type 0
NotesSlot L slot given a b rest =
    IsEntryNoted L slot.number (slot_seen L slot.field.now) given a.tape b.tape a.opened b.opened rest

-- the cells that are left after an entry
abbrev pub left_of : Result (Option Value × ℕ) JsonFault → Result ℕ JsonFault
left_of (Ok x) = Ok x.1
left_of (Err e) = Err e
