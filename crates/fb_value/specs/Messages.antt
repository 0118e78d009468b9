-- Size-prefixed buffers, one after the other.
-- From the FlatBuffers documentation, "Storing multiple FlatBuffers" of the C++ guide: a stream of them is split by
-- their size prefixes.
use Rattle.std.specs.Prelude.{◌+◌, ◌≡◌, ◌≤◌, ◌++◌, Bool, true, List, [], ◌∷◌, length, nat_le, None}
use Rattle.fb_layout.specs.Laid.{LaidSchema}
use Rattle.fb_value.specs.declared.faults.ReadFault.TheVariants.{Short, OutOfBounds}
use Rattle.fb_value.specs.Bounds.{Bounds}
use Rattle.fb_value.specs.Datum.{Datum}
use Rattle.fb_value.specs.Num.{Bytes, num}
use Rattle.fb_value.specs.Rules.{Rule, first_failing}
use Rattle.fb_value.specs.Holds.{HoldsFramed}

-- The size prefix is the length of what follows it.
pub record IsMessage (b : Bytes) : Type 0 where
  pub long : 4 ≤ length b
  pub counted : length b ≡ 4 + num b 0 4

-- what a stream has to keep so that a message can be taken from its front
abbrev pub whole_rules : Bytes → List Rule
whole_rules b = (Short (length b), nat_le 4 (length b)) ∷ (OutOfBounds 0, nat_le (4 + num b 0 4) (length b)) ∷ []

-- A stream begins with one message at most, and what is after it is what is left.
abbrev pub OneMessageInFront : Type 0
OneMessageInFront = (m n rest more : Bytes) → IsMessage m → IsMessage n → m ++ rest ≡ n ++ more
    → (m ≡ n) × (rest ≡ more)

-- Whatever is after a message, it can be taken from the front.
abbrev pub MessageIsWhole : Type 0
MessageIsWhole = (m rest : Bytes) → IsMessage m → first_failing (whole_rules (m ++ rest)) ≡ None

-- Bytes with a size prefix that hold a value are a message.
abbrev pub HeldIsMessage : Type 0
HeldIsMessage = (L : LaidSchema) (most : Bounds) (raw : Bool) (b : Bytes) (v : Datum) → HoldsFramed true L most raw b v
    → IsMessage b
