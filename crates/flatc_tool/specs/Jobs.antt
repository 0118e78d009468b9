-- What the tool's jobs answer, layer by layer.
-- From the FlatBuffers documentation, "Using the schema compiler": `--binary` and `--json`.
use Rattle.std.specs.Prelude.{ℕ, ◌≡◌, ◌<◌, ◌≤◌, List, length, Bool, true, false}
use Rattle.serde_json.specs.Data.{Data}
use Rattle.fb_layout.specs.Laid.{LaidSchema}
use Rattle.fb_value.specs.Bounds.{Bounds, most_bytes}
use Rattle.fb_value.specs.Counts.{is_whole}
use Rattle.fb_value.specs.Datum.{Datum}
use Rattle.fb_value.specs.Fits.{FitsRoot}
use Rattle.fb_value.specs.Num.{Bytes}
use Rattle.fb_value.specs.Holds.{HoldsFramed, RefusesFramed, front_of}
use Rattle.fb_value.specs.OldSlots.{OnlyOldBehind}
use Rattle.fb_json.specs.declared.faults.JsonFault.TheVariants as the_json
use Rattle.fb_text.specs.declared.faults.TextFault.TheVariants as the_text
use Rattle.fb_json.specs.Means.{Means}
use Rattle.fb_json.specs.Meant.{type_place}
use Rattle.fb_text.specs.Texts.{spaced_text}
use Rattle.fb_text.specs.declared.indents.Spacing.{Spacing}
use Rattle.fb_text.specs.declared.indents.Spacing.TheVariants.{Indented, Compact}
use Rattle.fb_text.specs.Unnamed.{IsRefused as IsUnnamed}
use Rattle.fb_build.specs.Covered.{CoveredFramed, EndsAlignedFramed}
use Rattle.fb_build.specs.FramedRoom.{framed_room}
use Rattle.fb_build.specs.declared.faults.BuildFault.TheVariants as the_build
use Rattle.fb_encode.specs.Encoded.{TreeRefused}
use Rattle.fb_declare.specs.SchemaTexts.{IsRefused, IsWant, OfLayout}
use Rattle.flatc_tool.specs.JsonText.{IsTree}
use Rattle.fb_faults.specs.declared.faults.ToolFault.{ToolFault}
use Rattle.fb_faults.specs.declared.faults.ToolFault.TheVariants.{Schema, Json, Build, Read, Text, Older, Newer}
use Rattle.fb_faults.specs.declared.faults.ToolFault.TheVariants.{BadJson, Memory}

-- The refusal of the schema, which is checked first, or one under its layout.
abbrev pub RefusedUnder : List ℕ → (LaidSchema → ToolFault → Type 0) → ToolFault → Type 0
RefusedUnder schema R (Schema f) = IsRefused schema f
RefusedUnder schema R f = OfLayout schema (λ L. R L f)

-- ---- JSON to a buffer

-- the JSON text means the value under the layout
abbrev pub JsonMeans : LaidSchema → Bounds → Bool → List ℕ → Datum → Type 0
JsonMeans L most unknown json v = (t : Data) × IsTree json t × Means L most unknown t v

-- The bytes of a JSON text under a layout: exactly the value that it means lies in them, only slots in use have
-- something, each byte belongs to the value or is one of few zeros, and they are no longer than its room. Where they
-- have a size prefix, it counts the others.
pub record IsBinary (prefixed : Bool) (L : LaidSchema) (json : List ℕ) (most : Bounds) (unknown : Bool)
    (b : Bytes) : Type 0 where
  pub value : Datum
  pub means : JsonMeans L most unknown json value
  pub fits : FitsRoot L value
  pub small : framed_room prefixed L value ≤ most_bytes
  pub holds : (raw : Bool) → HoldsFramed prefixed L most raw b value
  pub only : (raw : Bool) (v : Datum) → HoldsFramed prefixed L most raw b v → v ≡ value
  pub old_slots : OnlyOldBehind (front_of prefixed) L b
  pub covered : CoveredFramed prefixed L b
  pub aligned : EndsAlignedFramed prefixed L b
  pub short : length b ≤ framed_room prefixed L value

-- the bytes of a JSON text under a schema text
abbrev pub IsBinaryUnder : Bool → List ℕ → List ℕ → Bounds → Bool → Bytes → Type 0
IsBinaryUnder prefixed schema json most unknown b = OfLayout schema (λ L. IsBinary prefixed L json most unknown b)

-- the JSON means a value that isn't too big
pub record MayBeBinary (prefixed : Bool) (L : LaidSchema) (json : List ℕ) (most : Bounds) (unknown : Bool)
    : Type 0 where
  pub value : Datum
  pub means : JsonMeans L most unknown json value
  pub small : framed_room prefixed L value ≤ most_bytes

-- an accepted schema under which it does
abbrev pub MayBeBinaryUnder : Bool → List ℕ → List ℕ → Bounds → Bool → Type 0
MayBeBinaryUnder prefixed schema json most unknown = OfLayout schema (λ L. MayBeBinary prefixed L json most unknown)

-- The refusal of the first layer that refuses, in the order JSON text, value, size; of a tree that breaks rules its
-- first fault. Where a layer runs out of memory, the layers before it have passed; `Memory` alone is of the reading of
-- the JSON text.
abbrev pub BinaryRefused : Bool → LaidSchema → List ℕ → Bounds → Bool → ToolFault → Type 0
BinaryRefused prefixed L json most unknown BadJson = (t : Data) → ¬ IsTree json t
BinaryRefused prefixed L json most unknown (Json f) =
    (t : Data) × IsTree json t × TreeRefused L most unknown t f
BinaryRefused prefixed L json most unknown (Build the_build.TooBig) =
    (v : Datum) × JsonMeans L most unknown json v × (most_bytes < framed_room prefixed L v)
BinaryRefused prefixed L json most unknown (Build the_build.Memory) =
    MayBeBinary prefixed L json most unknown
BinaryRefused prefixed L json most unknown Memory = Unit {0}
BinaryRefused prefixed L json most unknown _ = ⊥

abbrev pub BinaryRefusedUnder : Bool → List ℕ → List ℕ → Bounds → Bool → ToolFault → Type 0
BinaryRefusedUnder prefixed schema json most unknown f =
    RefusedUnder schema (λ L. BinaryRefused prefixed L json most unknown) f

-- ---- a buffer to JSON

-- compact or indented
abbrev pub spacing_of : Bool → Spacing
spacing_of false = Indented
spacing_of true = Compact

-- The text of the value that the bytes hold under a layout. It has no code that the schema doesn't know.
pub record IsText (compact prefixed : Bool) (L : LaidSchema) (b : Bytes) (most : Bounds) (raw defaults : Bool)
    (text : List ℕ) : Type 0 where
  pub value : Datum
  pub holds : HoldsFramed prefixed L most raw b value
  pub whole : is_whole value ≡ true
  pub spelled : text ≡ spaced_text (spacing_of compact) L defaults value

-- the text of the value that the bytes hold under a schema text
abbrev pub IsTextUnder : Bool → Bool → List ℕ → Bytes → Bounds → Bool → Bool → List ℕ → Type 0
IsTextUnder compact prefixed schema b most raw defaults text =
    OfLayout schema (λ L. IsText compact prefixed L b most raw defaults text)

-- the bytes hold a value whose codes the schema knows
pub record MayBeText (prefixed : Bool) (L : LaidSchema) (b : Bytes) (most : Bounds) (raw : Bool) : Type 0 where
  pub value : Datum
  pub holds : HoldsFramed prefixed L most raw b value
  pub whole : is_whole value ≡ true

-- an accepted schema under which they do
abbrev pub MayBeTextUnder : Bool → List ℕ → Bytes → Bounds → Bool → Type 0
MayBeTextUnder prefixed schema b most raw = OfLayout schema (λ L. MayBeText prefixed L b most raw)

-- The least fault of the bytes, or the first code in the value that has no name.
-- Memory is asked for only for the text of a whole value.
abbrev pub TextRefused : Bool → LaidSchema → Bytes → Bounds → Bool → ToolFault → Type 0
TextRefused prefixed L b most raw (Read f) = RefusesFramed prefixed L most raw b f
TextRefused prefixed L b most raw (Text f) =
    (v : Datum) × HoldsFramed prefixed L most raw b v × IsUnnamed (type_place L.schema.root) v f
TextRefused prefixed L b most raw _ = ⊥

abbrev pub TextRefusedUnder : Bool → List ℕ → Bytes → Bounds → Bool → ToolFault → Type 0
TextRefusedUnder prefixed schema b most raw f = RefusedUnder schema (λ L. TextRefused prefixed L b most raw) f

-- ---- memory

-- a refusal that isn't one of memory
abbrev pub IsNotMemory : ToolFault → Type 0
IsNotMemory Memory = ⊥
IsNotMemory (Schema f) = ¬ (IsWant f)
IsNotMemory (Json the_json.Memory) = ⊥
IsNotMemory (Build the_build.Memory) = ⊥
IsNotMemory (Text the_text.Memory) = ⊥
IsNotMemory (Older f) = ¬ (IsWant f)
IsNotMemory (Newer f) = ¬ (IsWant f)
IsNotMemory _ = Unit {0}
