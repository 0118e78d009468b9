-- Streams of size-prefixed buffers.
-- From the FlatBuffers documentation, "Storing multiple FlatBuffers" of the C++ guide.
use Rattle.std.specs.Prelude.{ℕ, ◌≡◌, ◌++◌, List, Bool, true, None}
use Rattle.fb_layout.specs.Laid.{LaidSchema}
use Rattle.fb_value.specs.Bounds.{Bounds}
use Rattle.fb_value.specs.Num.{Bytes}
use Rattle.fb_value.specs.Rules.{first_failing}
use Rattle.fb_value.specs.Messages.{IsMessage, whole_rules}
use Rattle.flatc_tool.specs.Jobs.{IsBinary}

-- A size-prefixed buffer that was made of JSON can be taken from the front of a stream, whatever is after it, and no
-- other message can.
pub record IsSplitOff (b rest : Bytes) : Type 0 where
  pub whole : first_failing (whole_rules (b ++ rest)) ≡ None
  pub alone : (m more : Bytes) → IsMessage m → b ++ rest ≡ m ++ more → (m ≡ b) × (more ≡ rest)

abbrev pub StreamsAreSplit : Type 0
StreamsAreSplit = (L : LaidSchema) (json : List ℕ) (most : Bounds) (unknown : Bool) (b rest : Bytes)
    → IsBinary true L json most unknown b → IsSplitOff b rest
