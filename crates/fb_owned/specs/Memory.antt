-- Where memory may run out.
use Rattle.std.specs.Prelude.{ℕ, ◌≡◌, Bool, false, Option, None}
use Rattle.fb_layout.specs.Laid.{LaidSchema}
use Rattle.fb_value.specs.declared.faults.ReadFault.{ReadFault}
use Rattle.fb_value.specs.Bounds.{Bounds}
use Rattle.fb_value.specs.Num.{Bytes}
use Rattle.fb_value.specs.Places.{Target, part_place}
use Rattle.fb_value.specs.Rules.{Keeps}
use Rattle.fb_value.specs.Reached.{Path, Leads, ComesBefore}
use Rattle.fb_value.specs.Faults.{FaultFrom}
use Rattle.fb_value.specs.Holds.{front_of, front_fault, checked_identifier, root_at}

-- A table, vector or text is reached that keeps its rules, and no fault stands at or before its path: so it is within
-- the limits too.
pub record PartIsReachedBehind (front : ℕ) (fault : Option ReadFault) (L : LaidSchema) (most : Bounds) (b : Bytes)
    : Type 0 where
  pub header : fault ≡ None
  pub path : Path
  pub part : Target
  pub at : ℕ
  pub leads : Leads L b (root_at L front) path (record { sort = part_place part; at = at })
  pub keeps : Keeps L b (part_place part) at
  pub here : (f : ReadFault) → FaultFrom L b most (root_at L front) 0 0 path f → ⊥
  pub before : (other : Path) (f : ReadFault) → ComesBefore other path
      → FaultFrom L b most (root_at L front) 0 0 other f → ⊥

abbrev pub PartIsReachedFramed : Bool → LaidSchema → Bounds → Bool → Bytes → Type 0
PartIsReachedFramed prefixed L most raw b =
    PartIsReachedBehind (front_of prefixed) (front_fault prefixed b (checked_identifier L raw)) L most b

abbrev pub PartIsReached : LaidSchema → Bounds → Bool → Bytes → Type 0
PartIsReached L most raw b = PartIsReachedFramed false L most raw b
