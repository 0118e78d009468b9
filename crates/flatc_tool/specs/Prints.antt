-- What printing a buffer to a writer answers.
-- From the FlatBuffers documentation, "Using the schema compiler": `--json`.
use Rattle.std.specs.Prelude.{ℕ, ◌≡◌, ◌<◌, List, take, length, Bool, true, false, Option, Result, Ok, Err, IsUtf8}
use Rattle.std.specs.Io.KnownBytes.{Appends}
use Rattle.fb_layout.specs.Laid.{LaidSchema}
use Rattle.fb_value.specs.Bounds.{Bounds}
use Rattle.fb_value.specs.Datum.{Datum}
use Rattle.fb_value.specs.Num.{Bytes}
use Rattle.fb_value.specs.Holds.{HoldsFramed, RefusesFramed}
use Rattle.fb_text.specs.declared.faults.TextFault.TheVariants as the_text
use Rattle.fb_json.specs.Meant.{type_place}
use Rattle.fb_text.specs.Unnamed.{IsRefused as IsUnnamed}
use Rattle.fb_text.specs.Writes.{counted}
use Rattle.fb_text.specs.declared.faults.WriteFault.TheVariants.{NoMemberName, WriteFailed}
use Rattle.fb_declare.specs.SchemaTexts.{OfLayout}
use Rattle.flatc_tool.specs.Jobs.{IsText, IsNotMemory, RefusedUnder}
use Rattle.fb_faults.specs.declared.faults.ToolFault.{ToolFault}
use Rattle.fb_faults.specs.declared.faults.ToolFault.TheVariants.{Read, Text, Write}

-- All of the text of the bytes under a layout, which is UTF-8, was written after the bytes of the start.
abbrev pub IsSent : Bool → Bool → LaidSchema → Bytes → Bounds → Bool → Bool → Option (List ℕ) → Option (List ℕ)
    → Type 0
IsSent compact prefixed L b most raw defaults start known =
    (text : List ℕ) × IsText compact prefixed L b most raw defaults text × IsUtf8 text × Appends start known text

-- the same under a schema text
abbrev pub IsSentUnder : Bool → Bool → List ℕ → Bytes → Bounds → Bool → Bool → Option (List ℕ) → Option (List ℕ)
    → Type 0
IsSentUnder compact prefixed schema b most raw defaults start known =
    OfLayout schema (λ L. IsSent compact prefixed L b most raw defaults start known)

-- The least fault of the bytes, or the first union's code without a name; else a write failed after the first bytes
-- of the text, as many as it counts.
abbrev pub PrintRefused : Bool → Bool → LaidSchema → Bytes → Bounds → Bool → Bool → Option (List ℕ)
    → Option (List ℕ) → ToolFault → Type 0
PrintRefused compact prefixed L b most raw defaults start known (Read f) = RefusesFramed prefixed L most raw b f
PrintRefused compact prefixed L b most raw defaults start known (Write (NoMemberName at)) =
    (v : Datum) × HoldsFramed prefixed L most raw b v
    × IsUnnamed (type_place L.schema.root) v (the_text.NoMemberName at)
PrintRefused compact prefixed L b most raw defaults start known (Write (WriteFailed n)) =
    (text : List ℕ) × IsText compact prefixed L b most raw defaults text × (m : ℕ) × (m < length text)
    × Appends start known (take m text) × (n ≡ counted m)
PrintRefused compact prefixed L b most raw defaults start known _ = ⊥

abbrev pub PrintRefusedUnder : Bool → Bool → List ℕ → Bytes → Bounds → Bool → Bool → Option (List ℕ) → Option (List ℕ)
    → ToolFault → Type 0
PrintRefusedUnder compact prefixed schema b most raw defaults start known f =
    RefusedUnder schema (λ L. PrintRefused compact prefixed L b most raw defaults start known) f

-- a failed write is told exactly where the last write failed
abbrev pub TellsFailure : {A : Type 0} → Bool → Result A ToolFault → Type 0
TellsFailure failed (Err (Write (WriteFailed n))) = failed ≡ true
TellsFailure failed _ = failed ≡ false

-- what every refusal but a failed write leaves as it was
abbrev pub IfUnwritten : {A : Type 0} → Result A ToolFault → Type 0 → Type 0
IfUnwritten (Ok x) P = Unit {0}
IfUnwritten (Err (Write (WriteFailed n))) P = Unit {0}
IfUnwritten (Err f) P = P

-- a refusal that is neither of memory nor of a write
abbrev pub IsOfInput : ToolFault → Type 0
IsOfInput (Write (WriteFailed n)) = ⊥
IsOfInput f = IsNotMemory f

-- the refusal to print to memory: a write fails only where memory runs out
abbrev pub text_fault : ToolFault → ToolFault
text_fault (Write (NoMemberName at)) = Text (the_text.NoMemberName at)
text_fault (Write (WriteFailed n)) = Text the_text.Memory
text_fault f = f
