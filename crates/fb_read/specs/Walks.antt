-- What a walk over a buffer gives.
use Rattle.std.specs.Prelude.{ℕ, ◌+◌, ◌^◌, ◌≡◌, ◌<◌, ◌≤◌, List, length, Option, Result}
use Rattle.fb_layout.specs.Laid.{LaidSchema}
use Rattle.fb_value.specs.declared.faults.ReadFault.{ReadFault}
use Rattle.fb_value.specs.Bounds.{Bounds}
use Rattle.fb_value.specs.Datum.{Datum}
use Rattle.fb_value.specs.Counts.{entered}
use Rattle.fb_value.specs.Num.{Bytes, num}
use Rattle.fb_value.specs.Places.{Sort, Place, vtable}
use Rattle.fb_value.specs.Lies.{LiesAt}
use Rattle.fb_read.specs.declared.buffer.Buffer.{Buffer}
use Rattle.fb_read.specs.declared.walk.Walk.{Walk}
use Rattle.fb_read.specs.declared.walk.TableAt.{TableAt}
use Rattle.fb_read.specs.Visits.{visit, visit_each, visit_entry}

abbrev pub place : Sort → ℕ → Place
place sort at = record { sort = sort; at = at }

abbrev pub limits_of : Buffer → Bounds
limits_of buffer = record { depth = buffer.most_depth; cells = buffer.most_cells }

-- A buffer has this layout, these bytes and limits.
pub record IsBufferOf (L : LaidSchema) (b : Bytes) (most : Bounds) (buffer : Buffer) : Type 0 where
  pub layout : buffer.layout.now ≡ L
  pub bytes : buffer.bytes.now ≡ b
  pub depth : buffer.most_depth ≡ most.depth
  pub cells : buffer.most_cells ≡ most.cells

abbrev pub visit_in : Buffer → Place → ℕ → ℕ → Result ℕ ReadFault
visit_in buffer x tables spent = visit buffer.layout.now buffer.bytes.now (limits_of buffer) x tables spent

abbrev pub visit_each_in : Buffer → List (Option Place) → ℕ → ℕ → Result ℕ ReadFault
visit_each_in buffer xs tables spent = visit_each buffer.layout.now buffer.bytes.now (limits_of buffer) xs tables spent

abbrev pub visit_entry_in : Buffer → Option Place → ℕ → ℕ → Result ℕ ReadFault
visit_entry_in buffer x tables spent = visit_entry buffer.layout.now buffer.bytes.now (limits_of buffer) x tables spent

-- A walk keeps to the limits, with so many tables above it, and what its hearer knows is of the buffer.
pub record IsWithin {H : Type 0} (knows : H → Buffer → Type 0) (buffer : Buffer) (tables : ℕ) (walk : Walk H)
    : Type 0 where
  pub flat : tables ≤ buffer.most_depth
  pub few : walk.spent ≤ buffer.most_cells
  pub known : knows walk.hearer buffer

-- A table has a valid vtable.
pub record HasVtable (b : Bytes) (table : TableAt) : Type 0 where
  pub vtable_is : table.vtable_at ≡ vtable b table.at
  pub whole : table.vtable_at + num b table.vtable_at 2 ≤ length b
  pub within : table.vtable_at + 2 ≤ length b
  pub low : table.at < 2 ^ 32

-- The counter has risen by the tables, vectors and texts of what lies at a place.
abbrev pub EntersAt : Buffer → Place → ℕ → ℕ → Type 0
EntersAt buffer x old new = (d : Datum) → LiesAt buffer.layout.now buffer.bytes.now x.sort x.at d
    → new ≡ old + entered d
