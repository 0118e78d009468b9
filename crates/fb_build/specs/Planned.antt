-- What a plan of a tape stands for, and the bytes that are laid by it.
-- From the FlatBuffers documentation, "Internals": what is in a buffer.
use Rattle.std.specs.Prelude.{◌≤◌, ◌+◌, ◌-◌, Bool, List, Option, length}
use Rattle.fb_layout.specs.Laid.{LaidSchema}
use Rattle.fb_layout.specs.Widths.{greatest}
use Rattle.fb_value.specs.Bounds.{Bounds}
use Rattle.fb_value.specs.Counts.{cells, depth}
use Rattle.fb_value.specs.Datum.{Datum, a_table}
use Rattle.fb_value.specs.Holds.{HoldsFramed, front_of}
use Rattle.fb_value.specs.Num.{Bytes}
use Rattle.fb_value.specs.OldSlots.{OnlyOldBehind}
use Rattle.fb_value.specs.View.{entries_in}
use Rattle.fb_tape.specs.Tapes.{MeansRoot, Taped}
use Rattle.fb_build.specs.Covered.{CoveredFramed, EndsAlignedFramed}
use Rattle.fb_build.specs.NotedRoots.{NotesRoot}

-- the tape that is to be laid, its layout, and whether the buffer is size-prefixed
pub record TapePlanned : Type 0 where
  pub layout : LaidSchema
  pub tape : Taped
  pub prefixed : Bool

-- The bytes are laid by the plan: the root's table of any entries that its tape means lies in them, only slots in use
-- have something, each byte belongs to the value or is one of few zeros, and they are no longer than the tape's room.
pub record IsLaidBy (p : TapePlanned) (b : Bytes) : Type 0 where
  pub holds : (xs : List (Option Datum)) (most : Bounds) (raw : Bool) → MeansRoot p.tape xs
      → depth (a_table p.layout.schema.root (entries_in xs)) ≤ most.depth
      → cells (a_table p.layout.schema.root (entries_in xs)) ≤ most.cells
      → HoldsFramed p.prefixed p.layout most raw b (a_table p.layout.schema.root (entries_in xs))
  pub old_slots : OnlyOldBehind (front_of p.prefixed) p.layout b
  pub covered : CoveredFramed p.prefixed p.layout b
  pub aligned : EndsAlignedFramed p.prefixed p.layout b
  pub short : length b ≤ front_of p.prefixed + (p.tape.room + (8 + (greatest p.layout - 1)))

-- The same of any value that a tape notes as the root's.
pub record IsRootLaid (prefixed : Bool) (L : LaidSchema) (tape : Taped) (b : Bytes) : Type 0 where
  pub holds : (d : Datum) (most : Bounds) (raw : Bool) → NotesRoot L tape d
      → depth d ≤ most.depth → cells d ≤ most.cells → HoldsFramed prefixed L most raw b d
  pub old_slots : OnlyOldBehind (front_of prefixed) L b
  pub covered : CoveredFramed prefixed L b
  pub aligned : EndsAlignedFramed prefixed L b
