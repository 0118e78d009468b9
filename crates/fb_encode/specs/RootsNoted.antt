-- What is on a tape before it is laid: the root's value.
use Rattle.std.specs.Prelude.{Bool}
use Rattle.serde_json.specs.Data.{Data}
use Rattle.fb_layout.specs.Laid.{LaidSchema}
use Rattle.fb_value.specs.Bounds.{Bounds}
use Rattle.fb_value.specs.Datum.{Datum}
use Rattle.fb_value.specs.Fits.{FitsRoot}
use Rattle.fb_tape.specs.Tapes.{Taped}
use Rattle.fb_json.specs.Means.{Means}
use Rattle.fb_build.specs.NotedRoots.{NotesRoot}

-- The value that the tree means is noted on the tape, as the root's.
pub record IsRootNoted (L : LaidSchema) (most : Bounds) (unknown : Bool) (t : Data) (tape : Taped) : Type 0 where
  pub value : Datum
  pub noted : NotesRoot L tape value
  pub means : Means L most unknown t value
  pub fits : FitsRoot L value
