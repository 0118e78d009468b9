-- How many parts a walk enters: all that are reached from a place, or those on the way to its least fault.
-- From the FlatBuffers documentation, "FlatBuffer Internals": an offset leads to a table, a vector or a string. A part
-- counts once for each offset that leads to it.
use Rattle.std.specs.Prelude.{ℕ, zero, suc, ◌+◌, ◌≡◌, ◌⊎◌, [], ◌∷◌, take, slice_get, Bool, Option, None, Some}
use Rattle.fb_layout.specs.Laid.{LaidSchema}
use Rattle.fb_value.specs.declared.faults.ReadFault.{ReadFault}
use Rattle.fb_value.specs.Bounds.{Bounds}
use Rattle.fb_value.specs.Counts.{entered}
use Rattle.fb_value.specs.Datum.{Datum}
use Rattle.fb_value.specs.Lies.{LiesAt}
use Rattle.fb_value.specs.Num.{Bytes}
use Rattle.fb_value.specs.Places.{Sort, part_place, Place, named}
use Rattle.fb_value.specs.Rules.{fault_at}
use Rattle.fb_value.specs.Reached.{Path}
use Rattle.fb_value.specs.Faults.{sum_over, if_kept, levels}
use Rattle.fb_value.specs.Holds.{front_of, front_fault, checked_identifier, root_at}
use Rattle.fb_read.specs.FaultPaths.{LeastAt}

-- a place's own part
abbrev pub own_parts : Sort → ℕ
own_parts (part_place X) = 1
own_parts _ = 0

-- the parts that are reached from a place, within n levels
unfoldable pub parts_within : ℕ → LaidSchema → Bytes → Place → ℕ
parts_within zero L b x = 0
parts_within (suc n) L b x =
    if_kept (fault_at L b x.sort x.at)
    (own_parts x.sort + sum_over (λ y. parts_within n L b y) (named L b x.sort x.at))

-- Each step leads to a greater position, so these levels are enough.
unfoldable pub parts_from : LaidSchema → Bytes → Place → ℕ
parts_from L b x = parts_within (levels b x.at) L b x

-- the number of an entry's place, 0 where it names none
abbrev pub at_entry : (Place → ℕ) → Option (Option Place) → ℕ
at_entry number (Some (Some x)) = number x
at_entry number (Some None) = 0
at_entry number None = 0

abbrev pub parts_of : LaidSchema → Bytes → Option Place → ℕ
parts_of L b o = at_entry (parts_from L b) (Some o)

-- The parts that are entered up to the end of a path from x: those on the path, and at each step all that are reached
-- from the places named before it.
abbrev pub parts_along : LaidSchema → Bytes → Place → Path → ℕ
parts_along L b x [] = own_parts x.sort
parts_along L b x (k ∷ path) = own_parts x.sort + (sum_over (parts_from L b) (take k (named L b x.sort x.at))
    + at_entry (λ y. parts_along L b y path) (slice_get (named L b x.sort x.at) k))

abbrev pub parts_to : LaidSchema → Bytes → Option Place → Path → ℕ
parts_to L b o path = at_entry (λ y. parts_along L b y path) (Some o)

-- A counter has risen by the parts that are entered up to the least fault from x, which is this one.
abbrev pub EntersToFault : LaidSchema → Bytes → Bounds → Place → ReadFault → ℕ → ℕ → Type 0
EntersToFault L b most x f old new =
    (path : Path) × LeastAt L b most x 0 0 path f × (new ≡ old + parts_along L b x path)

-- The same of refused bytes: by none where a rule of the front fails, else by those up to the least fault.
abbrev pub EntersRefused : Bool → LaidSchema → Bounds → Bool → Bytes → ReadFault → ℕ → ℕ → Type 0
EntersRefused prefixed L most raw b f old new =
    ((front_fault prefixed b (checked_identifier L raw) ≡ Some f) × (new ≡ old))
    ⊎ ((front_fault prefixed b (checked_identifier L raw) ≡ None)
    × EntersToFault L b most (root_at L (front_of prefixed)) f old new)

-- The parts that are reached from a place are those of the value that lies there.
abbrev pub PartsOfValue : Type 0
PartsOfValue = (L : LaidSchema) (b : Bytes) (x : Place) (d : Datum) → LiesAt L b x.sort x.at d
    → entered d ≡ parts_from L b x
