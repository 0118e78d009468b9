-- What bytes a tree of JSON gives.
-- From the FlatBuffers documentation, "Using the schema compiler": `--binary`.
use Rattle.std.specs.Prelude.{◌≤◌, ◌<◌, Bool, length}
use Rattle.serde_json.specs.Data.{Data}
use Rattle.fb_layout.specs.Laid.{LaidSchema}
use Rattle.fb_value.specs.Bounds.{Bounds, most_bytes}
use Rattle.fb_value.specs.Counts.{cells, depth}
use Rattle.fb_value.specs.Datum.{Datum}
use Rattle.fb_value.specs.Fits.{FitsRoot}
use Rattle.fb_value.specs.Holds.{HoldsFramed, front_of}
use Rattle.fb_value.specs.Num.{Bytes}
use Rattle.fb_value.specs.OldSlots.{OnlyOldBehind}
use Rattle.fb_json.specs.Means.{Means}
use Rattle.fb_json.specs.Refuses as trees
use Rattle.fb_json.specs.declared.faults.JsonFault.{JsonFault}
use Rattle.fb_json.specs.declared.faults.JsonFault.TheVariants as the_json
use Rattle.fb_build.specs.Covered.{CoveredFramed, EndsAlignedFramed}
use Rattle.fb_build.specs.FramedRoom.{framed_room}
use Rattle.fb_build.specs.declared.faults.BuildFault.TheVariants as the_build
use Rattle.fb_encode.specs.declared.faults.EncodeFault.{EncodeFault}
use Rattle.fb_encode.specs.declared.faults.EncodeFault.TheVariants.{Json, Build}

-- Exactly the value that the tree means lies in the bytes, only slots in use have something, each byte belongs to the
-- value or is one of few zeros, or to the size prefix, and they are no longer than its room.
pub record IsEncodedFramed (prefixed : Bool) (L : LaidSchema) (most : Bounds) (unknown : Bool) (t : Data) (b : Bytes)
    : Type 0 where
  pub value : Datum
  pub means : Means L most unknown t value
  pub fits : FitsRoot L value
  pub small : framed_room prefixed L value ≤ most_bytes
  pub holds : (bounds : Bounds) (raw : Bool) → depth value ≤ bounds.depth → cells value ≤ bounds.cells
      → HoldsFramed prefixed L bounds raw b value
  pub old_slots : OnlyOldBehind (front_of prefixed) L b
  pub covered : CoveredFramed prefixed L b
  pub aligned : EndsAlignedFramed prefixed L b
  pub short : length b ≤ framed_room prefixed L value

-- what is refused for a rule that the tree breaks
pub record BreaksARule (L : LaidSchema) (most : Bounds) (unknown : Bool) (t : Data) (f : JsonFault) : Type 0 where
  pub refuses : trees.Refuses L most unknown t f
  pub first : trees.IsFirst L most unknown t f
  pub none : (d : Datum) → ¬ Means L most unknown t d

abbrev pub TreeRefused : LaidSchema → Bounds → Bool → Data → JsonFault → Type 0
TreeRefused L most unknown t the_json.Memory = trees.MayLackMemory most t the_json.Memory
TreeRefused L most unknown t f = BreaksARule L most unknown t f

-- The tree's first fault; or what it means is too big; or memory ran out, while the tree was read, or later, where it
-- means a value that isn't too big.
abbrev pub EncodeRefusedFramed : Bool → LaidSchema → Bounds → Bool → Data → EncodeFault → Type 0
EncodeRefusedFramed prefixed L most unknown t (Json f) = TreeRefused L most unknown t f
EncodeRefusedFramed prefixed L most unknown t (Build the_build.TooBig) =
    (d : Datum) × Means L most unknown t d × (most_bytes < framed_room prefixed L d)
EncodeRefusedFramed prefixed L most unknown t (Build the_build.Memory) =
    (d : Datum) × Means L most unknown t d × (framed_room prefixed L d ≤ most_bytes)
