-- Laws of the bytes that hold a value, over every layout that is well made.
use Rattle.std.specs.Prelude.{ℕ, ◌≡◌, ◌+◌, ◌<◌, ◌≤◌, ◌↔◌, All, Option, None, Some}
use Rattle.fb_layout.specs.Laid.{LaidSchema, StoredKind}
use Rattle.fb_layout.specs.WellMade.{IsWellMade}
use Rattle.fb_value.specs.declared.faults.ReadFault.{ReadFault}
use Rattle.fb_value.specs.Bounds.{Bounds}
use Rattle.fb_value.specs.Datum.{Datum}
use Rattle.fb_value.specs.Counts.{cells, depth, nesting}
use Rattle.fb_value.specs.Fits.{FitsRoot}
use Rattle.fb_value.specs.Num.{Bytes}
use Rattle.fb_value.specs.Places.{Sort, Place, named}
use Rattle.fb_value.specs.Rules.{fault_at}
use Rattle.fb_value.specs.Lies.{Lies, LiesAt}
use Rattle.fb_value.specs.Reads.{value_at, inline_value, value_step, inline_step}
use Rattle.fb_value.specs.Reached.{Path, AllKeep}
use Rattle.fb_value.specs.Faults.{own_cells, own_tables, sum_over, if_kept, or_else, limited_fault, FaultFrom}
use Rattle.fb_value.specs.Faults.{LeastFrom, first_among, all, fault_from}
use Rattle.fb_value.specs.Holds.{HoldsBehind, NoFaultBehind, LeastFaultBehind, RefusesBehind, fault_behind, root_at}

-- Bytes hold one value at most.
abbrev pub OneValue : Type 0
OneValue = (p : ℕ) (fault : Option ReadFault) (L : LaidSchema) (most : Bounds) (b : Bytes) (v w : Datum)
    → HoldsBehind p fault L most b v → HoldsBehind p fault L most b w → v ≡ w

-- A value lies at the root exactly where all places that are reached keep their rules.
abbrev pub ValueWhereAllKeep : Type 0
ValueWhereAllKeep = (L : LaidSchema) (b : Bytes) (p : ℕ) → IsWellMade L
    → ((d : Datum) × LiesAt L b (root_at L p).sort p d) ↔ AllKeep L b (root_at L p)

-- The cells of what is reached from a place: none where a rule fails there, else its own and those of all that it
-- names.
abbrev pub CellsOfPlace : Type 0
CellsOfPlace = (L : LaidSchema) (b : Bytes) (x : Place)
    → all L b x ≡ if_kept (fault_at L b x.sort x.at)
    (own_cells b x.sort x.at + sum_over (all L b) (named L b x.sort x.at))

-- The cells of a value are those of the places that are reached from where it lies.
abbrev pub CellsOfValue : Type 0
CellsOfValue = (L : LaidSchema) (b : Bytes) (x : Place) (d : Datum) → LiesAt L b x.sort x.at d → cells d ≡ all L b x

-- what a computation says of the faults behind a place
abbrev pub IsFirstFault : LaidSchema → Bytes → Bounds → Place → Option ReadFault → Type 0
IsFirstFault L b most x None = (path : Path) (f : ReadFault) → FaultFrom L b most x 0 0 path f → ⊥
IsFirstFault L b most x (Some f) = LeastFrom L b most x 0 0 f

-- The computed fault is the least; where none is computed, none stands.
abbrev pub FaultOfLeastPath : Type 0
FaultOfLeastPath = (L : LaidSchema) (b : Bytes) (most : Bounds) (x : Place)
    → IsFirstFault L b most x (fault_from L b most x 0 0)

-- what a computed outcome says: no fault stands and a value is held, or the fault is the least and none is held
abbrev pub HeldOrFault : ℕ → Option ReadFault → LaidSchema → Bounds → Bytes → Option ReadFault → Type 0
HeldOrFault p fault L most b None = NoFaultBehind p fault L most b × ((v : Datum) × HoldsBehind p fault L most b v)
HeldOrFault p fault L most b (Some f) = RefusesBehind p fault L most b f

-- A value is held exactly where no fault stands.
abbrev pub ValueOrFault : Type 0
ValueOrFault = (p : ℕ) (fault : Option ReadFault) (L : LaidSchema) (most : Bounds) (b : Bytes) → IsWellMade L
    → HeldOrFault p fault L most b (fault_behind p fault L most b)

-- Bytes have one least fault at most.
abbrev pub OneLeastFault : Type 0
OneLeastFault = (p : ℕ) (fault : Option ReadFault) (L : LaidSchema) (most : Bounds) (b : Bytes) (f g : ReadFault)
    → LeastFaultBehind p fault L most b f → LeastFaultBehind p fault L most b g → f ≡ g

-- What fits the root with at most 127 tables in one another is nested at most 300 deep.
abbrev pub NestingOfDepth : Type 0
NestingOfDepth = (L : LaidSchema) (d : Datum) → IsWellMade L → FitsRoot L d → depth d ≤ 127 → nesting d ≤ 300

-- The first fault from a place: its own, the limits last, or the first among those of the places that it names.
abbrev pub FaultOfPlace : Type 0
FaultOfPlace =
    (L : LaidSchema) (b : Bytes) (most : Bounds) (x : Place) (tables spent : ℕ) → fault_from L b most x tables spent
    ≡ or_else (limited_fault L b most x (tables + own_tables x.sort) (spent + own_cells b x.sort x.at))
    (first_among (λ y before. fault_from L b most y (tables + own_tables x.sort) before) (all L b)
    (spent + own_cells b x.sort x.at) (named L b x.sort x.at))

-- The value that bytes hold is one that the root may have: each byte is below 256.
abbrev pub FitsWhereHeld : Type 0
FitsWhereHeld = (p : ℕ) (fault : Option ReadFault) (L : LaidSchema) (most : Bounds) (b : Bytes) (v : Datum)
    → IsWellMade L → All (λ x. x < 256) b → HoldsBehind p fault L most b v → FitsRoot L v

-- The value at a place, by one step; and of what stands in its place.
abbrev pub ValueOfPlace : Type 0
ValueOfPlace =
    (L : LaidSchema) (b : Bytes) → IsWellMade L
    → ((sort : Sort) (p : ℕ) → value_at L b sort p ≡ value_step L b sort p)
    × ((kind : StoredKind) (p : ℕ) → inline_value L b kind p ≡ inline_step L b kind p)

-- The value that is computed at a place is the one that lies there.
abbrev pub ValueWhereLies : Type 0
ValueWhereLies = (L : LaidSchema) (b : Bytes) (sort : Sort) (p : ℕ) (d : Datum) → IsWellMade L
    → (value_at L b sort p ≡ Some d) ↔ Lies L b sort p d
