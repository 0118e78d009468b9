-- What a printer returns, and the text of one slot, of one field.
-- From the FlatBuffers documentation, "JSON parsing" (text output).
use Rattle.std.specs.Prelude.{ℕ, ◌≡◌, ◌<◌, ◌++◌, List, [], take, length, Bool, true, false, Option, None, Some, Result}
use Rattle.std.specs.Prelude.{Ok, Err}
use Rattle.std.specs.Io.KnownBytes.{Appends}
use Rattle.fb_schema.specs.Schema.{DeclaredField}
use Rattle.fb_layout.specs.Laid.{LaidSchema}
use Rattle.fb_value.specs.Datum.{Datum}
use Rattle.fb_value.specs.Counts.{is_whole}
use Rattle.fb_json.specs.declared.faults.Place.{Place}
use Rattle.fb_text.specs.Texts.{is_printed, entry_text, member_line, value_text}
use Rattle.fb_text.specs.Unnamed.{first_unnamed}
use Rattle.fb_text.specs.declared.faults.WriteFault.{WriteFault}
use Rattle.fb_text.specs.declared.faults.WriteFault.TheVariants.{NoMemberName, WriteFailed}
use Rattle.fb_text.specs.Writes.{counted}

-- All of a value's text was written behind the bytes of the start, or a write failed behind the first
-- bytes of it. A value that isn't whole is refused, with the place of its first union without a name.
abbrev pub IsPrinted : {A : Type 0} → Place → Datum → List ℕ → Option (List ℕ) → Option (List ℕ) → Result A WriteFault
    → Type 0
IsPrinted root d text start known (Ok x) = (is_whole d ≡ true) × Appends start known text
IsPrinted root d text start known (Err (WriteFailed n)) =
    (is_whole d ≡ true) × (m : ℕ) × (m < length text) × Appends start known (take m text) × (n ≡ counted m)
IsPrinted root d text start known (Err (NoMemberName at)) =
    (is_whole d ≡ false) × (first_unnamed root d ≡ Some at)

-- A failed write is told exactly where the last write failed, but for a value that isn't whole.
abbrev pub TellsFailure : {A : Type 0} → Bool → Result A WriteFault → Type 0
TellsFailure failed (Ok x) = failed ≡ false
TellsFailure failed (Err (WriteFailed n)) = failed ≡ true
TellsFailure failed (Err (NoMemberName at)) = Unit {0}

-- what a union without a name leaves as it was
abbrev pub IfUnnamed : {A : Type 0} → Result A WriteFault → Type 0 → Type 0
IfUnnamed (Ok x) P = Unit {0}
IfUnnamed (Err (WriteFailed n)) P = Unit {0}
IfUnnamed (Err (NoMemberName at)) P = P

abbrev pub is_entry_printed : Bool → DeclaredField → Option Datum → Bool
is_entry_printed defaults f None = false
is_entry_printed defaults f (Some d) = is_printed defaults f d

-- the text of a slot: nothing for one without an entry
abbrev pub slot_text : LaidSchema → Bool → Option (List ℕ) → Bool → DeclaredField → Option Datum → List ℕ
slot_text L defaults inner some f None = []
slot_text L defaults inner some f (Some d) =
    entry_text L.schema (is_printed defaults f d) inner some f.name f.shape d
    (value_text L defaults inner f.shape d)

-- a name and its value, on a line of its own
abbrev pub named_text : LaidSchema → Bool → Option (List ℕ) → Bool → DeclaredField → Datum → List ℕ
named_text L defaults inner some f d =
    member_line inner some f.name [] ++ value_text L defaults inner f.shape d

-- the text of a struct's field
abbrev pub part_text : LaidSchema → Bool → Option (List ℕ) → Bool → DeclaredField → Option Datum → List ℕ
part_text L defaults inner some f None = []
part_text L defaults inner some f (Some d) = named_text L defaults inner some f d

-- the first union without a name in a slot, at the slot's place
abbrev pub first_in_entry : Place → Option Datum → Option Place
first_in_entry at None = None
first_in_entry at (Some d) = first_unnamed at d
