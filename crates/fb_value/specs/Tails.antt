-- What lies in a tail of a buffer: its front bytes aren't there yet, so positions count from the end.
-- From the FlatBuffers documentation, "FlatBuffer Internals": a buffer is built from its end, and aligned where it
-- starts.
use Rattle.std.specs.Prelude.{ℕ, ◌-◌, ◌≤◌, length, ◌&&◌}
use Rattle.fb_layout.specs.Laid.{LaidSchema}
use Rattle.fb_value.specs.Datum.{Datum}
use Rattle.fb_value.specs.Num.{Bytes, divides}
use Rattle.fb_value.specs.Places.{Sort}
use Rattle.fb_value.specs.Rules.{Aligned}
use Rattle.fb_value.specs.Lies.{LiesAtBy}
use Rattle.fb_value.specs.EachTable.{EachTableAt, IsOldTable}

-- The count to the end is a multiple, and so is m, which stands for the whole buffer's length.
abbrev pub from_end : Bytes → ℕ → Aligned
from_end s m a p = divides a (length s - p) && divides a m

-- A value lies e bytes before the end, as in a whole buffer whose length is a multiple of m.
pub record LiesInTail (L : LaidSchema) (m : ℕ) (s : Bytes) (sort : Sort) (e : ℕ) (d : Datum) : Type 0 where
  pub within : e ≤ length s
  pub lies : LiesAtBy (from_end s m) L s sort (length s - e) d

-- The tables of the value that lies e bytes before the end have nothing in slots that aren't in use.
abbrev pub OldInTail : LaidSchema → Bytes → Sort → ℕ → Datum → Type 0
OldInTail L s sort e d = EachTableAt L s (λ t p. IsOldTable L s t p) sort (length s - e) d
