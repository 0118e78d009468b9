-- What holds of the tool's answers together, whichever they are. Each law is of buffers alone and, where `prefixed` is
-- true, of size-prefixed buffers, which a stream has.
use Rattle.std.specs.Prelude.{ℕ, ◌≡◌, List, Bool, true, Option, Some, Result}
use Rattle.serde_json.specs.Data.{Data}
use Rattle.fb_layout.specs.Laid.{LaidSchema}
use Rattle.fb_value.specs.declared.faults.ReadFault.{ReadFault}
use Rattle.fb_value.specs.Bounds.{Bounds}
use Rattle.fb_value.specs.Counts.{is_whole}
use Rattle.fb_value.specs.Datum.{Datum}
use Rattle.fb_value.specs.Num.{Bytes}
use Rattle.fb_value.specs.Holds.{HoldsFramed, RefusesFramed, front_of}
use Rattle.fb_value.specs.OldSlots.{OnlyOldBehind}
use Rattle.fb_json.specs.declared.faults.JsonFault.{JsonFault}
use Rattle.fb_json.specs.Means.{Means}
use Rattle.fb_json.specs.Refuses.{IsFirst}
use Rattle.fb_text.specs.Texts.{spaced_text}
use Rattle.fb_build.specs.Covered.{CoveredFramed}
use Rattle.fb_read.specs.declared.view.View.{View}
use Rattle.fb_conform.specs.Carry.{carry}
use Rattle.fb_declare.specs.SchemaTexts.{IsAccepted}
use Rattle.flatc_tool.specs.JsonText.{IsTree}
use Rattle.flatc_tool.specs.Jobs.{JsonMeans, IsBinaryUnder, BinaryRefusedUnder, IsTextUnder, TextRefusedUnder}
use Rattle.flatc_tool.specs.Jobs.{IsNotMemory, spacing_of}
use Rattle.flatc_tool.specs.Checks.{IsSound, CheckRefused}
use Rattle.flatc_tool.specs.Prints.{IsSentUnder, PrintRefusedUnder}
use Rattle.flatc_tool.specs.Evolution.{TextsConform}
use Rattle.flatc_tool.specs.Answers.{TextAnswer, CheckAnswer, ViewAnswer, ValueAnswer, IsTextOrMemory, IsOkOrMemory}
use Rattle.flatc_tool.specs.Answers.{IsViewOf, IsValueOrMemory}
use Rattle.fb_faults.specs.declared.faults.ToolFault.{ToolFault}
use Rattle.fb_faults.specs.declared.faults.ToolFault.TheVariants.{Json, Read, BadJson}

-- Under a schema text the bytes hold the value, and `to_json` and `decode` return its text or run out of memory.
pub record HoldsAndPrints (prefixed : Bool) (schema : List ℕ) (b : Bytes) (most : Bounds) (raw : Bool) (L : LaidSchema)
    (v : Datum) : Type 0 where
  pub holds : HoldsFramed prefixed L most raw b v
  pub printed : (compact defaults : Bool) (r : Result (List ℕ) ToolFault)
      → TextAnswer compact prefixed schema b most raw defaults r
      → IsTextOrMemory (spaced_text (spacing_of compact) L defaults v) r

-- The value that a JSON text means is whole, it is held by the bytes and no other is, only slots in use have something,
-- each byte belongs to the value or is one of few zeros, and each call on these bytes returns what is the value's, or
-- runs out of memory.
pub record CarriesValue (prefixed : Bool) (schema : List ℕ) (b : Bytes) (most : Bounds) (L : LaidSchema) (v : Datum)
    : Type 0 where
  pub whole : is_whole v ≡ true
  pub here : (raw : Bool) → HoldsAndPrints prefixed schema b most raw L v
  pub only : (raw : Bool) (w : Datum) → HoldsFramed prefixed L most raw b w → w ≡ v
  pub old_slots : OnlyOldBehind (front_of prefixed) L b
  pub covered : CoveredFramed prefixed L b
  pub checked : (raw : Bool) (r : Result (Unit {0}) ToolFault) → CheckAnswer prefixed schema (Some b) most raw r
      → IsOkOrMemory r
  pub viewed : (raw : Bool) (r : Result View ReadFault) → ViewAnswer prefixed L b most raw r → IsViewOf v r
  pub read : (raw : Bool) (r : Result Datum ReadFault) → ValueAnswer prefixed L b most raw r → IsValueOrMemory v r
  -- under any new schema text that conforms, the bytes are those of that value with new fields at defaults and
  -- deprecated ones gone
  pub evolved : (raw : Bool) (new : List ℕ) (K : LaidSchema) → TextsConform schema new → IsAccepted new K
      → HoldsAndPrints prefixed new b most raw K (carry L K v)

-- JSON that means a value becomes bytes that carry exactly it.
abbrev pub JsonIsCarried : Type 0
JsonIsCarried = (prefixed : Bool) (schema json : List ℕ) (most : Bounds) (unknown : Bool) (b : Bytes)
    → IsBinaryUnder prefixed schema json most unknown b
    → (L : LaidSchema) → IsAccepted schema L → (v : Datum) → JsonMeans L most unknown json v
    → CarriesValue prefixed schema b most L v

-- Where JSON means no value, it has a first fault; no buffer is made of it, and no other fault is reported.
pub record NoneIsMeant (schema json : List ℕ) (most : Bounds) (unknown : Bool) (L : LaidSchema)
    (t : Data) : Type 0 where
  pub fault : JsonFault
  pub first : IsFirst L most unknown t fault
  pub no_buffer : (prefixed : Bool) (b : Bytes) → ¬ IsBinaryUnder prefixed schema json most unknown b
  -- `to_binary` and `encode`
  pub refused : (prefixed : Bool) (f : ToolFault) → BinaryRefusedUnder prefixed schema json most unknown f
      → IsNotMemory f → f ≡ Json fault

-- JSON that means no value is refused with its first fault, at its place; a text that isn't JSON as such.
pub record OtherJsonIsRefused : Type 0 where
  pub by_its_fault : (schema json : List ℕ) (most : Bounds) (unknown : Bool) (L : LaidSchema) → IsAccepted schema L
      → (t : Data) → IsTree json t → ((v : Datum) → ¬ Means L most unknown t v)
      → NoneIsMeant schema json most unknown L t
  pub as_no_json : (schema json : List ℕ) (most : Bounds) (unknown : Bool) (L : LaidSchema) → IsAccepted schema L
      → ((t : Data) → ¬ IsTree json t)
      → (prefixed : Bool) (f : ToolFault) → BinaryRefusedUnder prefixed schema json most unknown f → IsNotMemory f
      → f ≡ BadJson

-- Where no value lies, the bytes have a least fault; no call has anything to return for them, and none returns another
-- fault.
pub record NoneLies (prefixed : Bool) (schema : List ℕ) (b : Bytes) (most : Bounds) (raw : Bool) (L : LaidSchema)
    : Type 0 where
  pub fault : ReadFault
  pub least : RefusesFramed prefixed L most raw b fault
  -- `to_json` and `decode`
  pub no_text : (compact defaults : Bool) (text : List ℕ)
      → ¬ IsTextUnder compact prefixed schema b most raw defaults text
  pub answered : (f : ToolFault) → TextRefusedUnder prefixed schema b most raw f → IsNotMemory f → f ≡ Read fault
  -- `check`
  pub unsound : ¬ IsSound prefixed schema (Some b) most raw
  pub checked : (f : ToolFault) → CheckRefused prefixed schema (Some b) most raw f → IsNotMemory f
      → f ≡ Read fault
  -- `print_to` and `decode_to`
  pub unsent : (compact defaults : Bool) (start known : Option (List ℕ))
      → ¬ IsSentUnder compact prefixed schema b most raw defaults start known
  pub printed : (compact defaults : Bool) (start known : Option (List ℕ)) (f : ToolFault)
      → PrintRefusedUnder compact prefixed schema b most raw defaults start known f → IsNotMemory f → f ≡ Read fault

-- Bytes in which no value lies are refused with their least fault.
abbrev pub OthersAreRefused : Type 0
OthersAreRefused = (prefixed : Bool) (schema : List ℕ) (b : Bytes) (most : Bounds) (raw : Bool) (L : LaidSchema)
    → IsAccepted schema L → ((v : Datum) → ¬ HoldsFramed prefixed L most raw b v)
    → NoneLies prefixed schema b most raw L
