-- What bytes a JSON text gives.
-- From the FlatBuffers documentation, "JSON parsing": the JSON is read whole before a schema gives it a meaning.
use Rattle.std.specs.Prelude.{ℕ, List, Bool, ⊤}
use Rattle.serde_json.specs.Data.{Data}
use Rattle.fb_layout.specs.Laid.{LaidSchema}
use Rattle.fb_value.specs.Bounds.{Bounds}
use Rattle.fb_value.specs.Num.{Bytes}
use Rattle.fb_tape.specs.Tapes.{Taped}
use Rattle.fb_build.specs.Planned.{IsLaidBy, TapePlanned}
use Rattle.fb_json.specs.declared.faults.JsonFault.{JsonFault}
use Rattle.fb_json.specs.declared.faults.JsonFault.TheVariants as the_json
use Rattle.fb_encode.specs.Encoded.{EncodeRefusedFramed, IsEncodedFramed}
use Rattle.fb_encode.specs.RootsNoted.{IsRootNoted}
use Rattle.fb_encode.specs.TextsRead.{IsRead, IsReadAs}
use Rattle.fb_encode.specs.declared.faults.EncodeFault.TheVariants.{Json, Build}
use Rattle.fb_encode.specs.declared.faults.JsonTextFault.{JsonTextFault}
use Rattle.fb_encode.specs.declared.faults.JsonTextFault.TheVariants.{BadJson, Encode}
use Rattle.fb_encode.specs.declared.faults.JsonTextFault.TheVariants as the_text

-- the text is JSON, of this tree
abbrev pub IsJsonOf : List ℕ → Data → Type 0
IsJsonOf json t = IsReadAs 127 json t

-- The bytes are a buffer of the tree that the text is read as, with a size prefix or without.
abbrev pub IsTextEncoded : Bool → LaidSchema → Bounds → Bool → List ℕ → Bytes → Type 0
IsTextEncoded prefixed L most unknown json b =
    (t : Data) × IsJsonOf json t × IsEncodedFramed prefixed L most unknown t b

-- The bytes that are laid by the plan are a buffer of the tree that the text is read as.
abbrev pub IsTextPlanned : Bool → LaidSchema → Bounds → Bool → List ℕ → TapePlanned → Type 0
IsTextPlanned prefixed L most unknown json plan =
    (b : Bytes) → IsLaidBy plan b → IsTextEncoded prefixed L most unknown json b

-- it is of the text, which isn't JSON, or whose meaning breaks a rule
abbrev pub IsOfTheText : JsonTextFault → Type 0
IsOfTheText BadJson = ⊤
IsOfTheText the_text.Memory = ⊤
IsOfTheText (Encode (Json f)) = ⊤
IsOfTheText (Encode (Build f)) = ⊥

-- The text isn't JSON; or its tree is refused; or memory ran out while it was read.
abbrev pub TextRefused : Bool → LaidSchema → Bounds → Bool → List ℕ → JsonTextFault → Type 0
TextRefused prefixed L most unknown json BadJson = ¬ IsRead 127 json
TextRefused prefixed L most unknown json the_text.Memory = ⊤
TextRefused prefixed L most unknown json (Encode f) =
    (t : Data) × IsJsonOf json t × EncodeRefusedFramed prefixed L most unknown t f

-- It is refused before anything is laid, with a size prefix or without.
abbrev pub IsUnread : LaidSchema → Bounds → Bool → List ℕ → JsonTextFault → Type 0
IsUnread L most unknown json f = (prefixed : Bool) → TextRefused prefixed L most unknown json f

-- The value that the text means is noted on the tape, as the root's.
abbrev pub IsTextNoted : LaidSchema → Bounds → Bool → List ℕ → Taped → Type 0
IsTextNoted L most unknown json tape = (t : Data) × IsJsonOf json t × IsRootNoted L most unknown t tape

-- The first fault of a text that is read piece by piece, where nobody knows yet whether the root is an object.
abbrev pub first_fault : JsonFault → JsonTextFault
first_fault the_json.Memory = the_text.Memory
first_fault f = Encode (Json f)
