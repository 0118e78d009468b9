-- The value that bytes hold, or the least of their faults.
-- From the FlatBuffers documentation, "FlatBuffer Internals" and "File identification": the root's reference, and the
-- identifier after it. From "Storing multiple FlatBuffers" (C++ guide, size-prefixed buffers): a size
-- prefix, the length of what follows it, may come first. Positions and alignment count from its first byte then.
use Rattle.std.specs.Prelude.{ℕ, ◌+◌, ◌≡◌, ◌≤◌, ◌⊎◌, List, [], ◌∷◌, length, take, drop, nat_le, Bool, true, false}
use Rattle.std.specs.Prelude.{Option, None, Some, if◌then◌else◌}
use Rattle.std.specs.Str.{bytes_eq}
use Rattle.fb_layout.specs.Laid.{LaidSchema}
use Rattle.fb_value.specs.declared.faults.ReadFault.{ReadFault}
use Rattle.fb_value.specs.declared.faults.ReadFault.TheVariants.{Short, TooLong, WrongIdentifier, OutOfBounds}
use Rattle.fb_value.specs.Bounds.{Bounds, most_bytes}
use Rattle.fb_value.specs.Datum.{Datum}
use Rattle.fb_value.specs.Counts.{cells, depth}
use Rattle.fb_value.specs.Num.{Bytes, num}
use Rattle.fb_value.specs.Places.{table_part, ref_place, part_place, Place}
use Rattle.fb_value.specs.Rules.{Rule, first_failing, Keeps}
use Rattle.fb_value.specs.Lies.{LiesAt}
use Rattle.fb_value.specs.Reached.{Path}
use Rattle.fb_value.specs.Faults.{FaultFrom, LeastFrom, or_else, fault_from}

-- where a buffer begins: after the size prefix, if it has one
abbrev pub front_of : Bool → ℕ
front_of false = 0
front_of true = 4

-- the place of the root's reference, at a position
abbrev pub root_at : LaidSchema → ℕ → Place
root_at L p = record { sort = ref_place (table_part L.schema.root); at = p }

-- the same at the front
abbrev pub root_place : LaidSchema → Place
root_place L = root_at L 0

-- the identifier that is checked: raw bytes need have none
abbrev pub checked_identifier : LaidSchema → Bool → Option (List ℕ)
checked_identifier L raw = if raw then None else L.schema.identifier

-- The header's rules, from a position on. A checked identifier stands after the root's reference.
abbrev pub header_rules : ℕ → Bytes → Option (List ℕ) → List Rule
header_rules p b None =
    (Short (length b), nat_le (p + 4) (length b)) ∷ (TooLong most_bytes, nat_le (length b) most_bytes) ∷ []
header_rules p b (Some id) =
    (Short (length b), nat_le (p + 8) (length b)) ∷ (TooLong most_bytes, nat_le (length b) most_bytes)
    ∷ (WrongIdentifier (p + 4), bytes_eq (take 4 (drop (p + 4) b)) id) ∷ []

-- The rules of a size prefix, before others: it is the length of what follows.
abbrev pub prefix_rules : Bytes → List Rule → List Rule
prefix_rules b others = (Short (length b), nat_le 4 (length b)) ∷ (OutOfBounds 0, nat_le (4 + num b 0 4) (length b))
    ∷ (OutOfBounds (4 + num b 0 4), nat_le (length b) (4 + num b 0 4)) ∷ others

-- the first fault of a header at the front
unfoldable pub header_fault : Bytes → Option (List ℕ) → Option ReadFault
header_fault b id = first_failing (header_rules 0 b id)

-- the same after a size prefix
unfoldable pub prefixed_fault : Bytes → Option (List ℕ) → Option ReadFault
prefixed_fault b id = first_failing (prefix_rules b (header_rules 4 b id))

-- with a size prefix or without
abbrev pub front_fault : Bool → Bytes → Option (List ℕ) → Option ReadFault
front_fault false b id = header_fault b id
front_fault true b id = prefixed_fault b id

-- The bytes hold a value: the front has no fault, the value lies behind the root's reference at a position, and it is
-- within the limits.
pub record HoldsBehind (p : ℕ) (fault : Option ReadFault) (L : LaidSchema) (most : Bounds) (b : Bytes) (v : Datum)
    : Type 0 where
  pub header : fault ≡ None
  pub lies : LiesAt L b (ref_place (table_part L.schema.root)) p v
  pub deep : depth v ≤ most.depth
  pub small : cells v ≤ most.cells

-- with a size prefix or without
abbrev pub HoldsFramed : Bool → LaidSchema → Bounds → Bool → Bytes → Datum → Type 0
HoldsFramed prefixed L most raw b v =
    HoldsBehind (front_of prefixed) (front_fault prefixed b (checked_identifier L raw)) L most b v

-- a buffer alone
abbrev pub Holds : LaidSchema → Bounds → Bool → Bytes → Datum → Type 0
Holds L most raw b v = HoldsFramed false L most raw b v

-- The root table may be entered: the front and the way to it keep their rules, and it is within the limits.
pub record RootKeepsBehind (p : ℕ) (fault : Option ReadFault) (L : LaidSchema) (most : Bounds) (b : Bytes)
    : Type 0 where
  pub header : fault ≡ None
  pub reference : Keeps L b (ref_place (table_part L.schema.root)) p
  pub table : Keeps L b (part_place (table_part L.schema.root)) (p + num b p 4)
  pub deep : 1 ≤ most.depth
  pub small : 1 ≤ most.cells

abbrev pub RootKeepsFramed : Bool → LaidSchema → Bounds → Bool → Bytes → Type 0
RootKeepsFramed prefixed L most raw b =
    RootKeepsBehind (front_of prefixed) (front_fault prefixed b (checked_identifier L raw)) L most b

abbrev pub RootKeeps : LaidSchema → Bounds → Bool → Bytes → Type 0
RootKeeps L most raw b = RootKeepsFramed false L most raw b

-- the front's first fault; where it has none, the one at the least path from the root's reference
abbrev pub LeastFaultBehind : ℕ → Option ReadFault → LaidSchema → Bounds → Bytes → ReadFault → Type 0
LeastFaultBehind p fault L most b f = (fault ≡ Some f) ⊎ ((fault ≡ None) × LeastFrom L b most (root_at L p) 0 0 f)

abbrev pub IsLeastFault : LaidSchema → Bounds → Bool → Bytes → ReadFault → Type 0
IsLeastFault L most raw b f = LeastFaultBehind 0 (header_fault b (checked_identifier L raw)) L most b f

-- no fault stands, in the front or at the end of a path
abbrev pub NoFaultBehind : ℕ → Option ReadFault → LaidSchema → Bounds → Bytes → Type 0
NoFaultBehind p fault L most b =
    (fault ≡ None) × ((path : Path) (f : ReadFault) → FaultFrom L b most (root_at L p) 0 0 path f → ⊥)

abbrev pub HasNoFaultFramed : Bool → LaidSchema → Bounds → Bool → Bytes → Type 0
HasNoFaultFramed prefixed L most raw b =
    NoFaultBehind (front_of prefixed) (front_fault prefixed b (checked_identifier L raw)) L most b

abbrev pub HasNoFault : LaidSchema → Bounds → Bool → Bytes → Type 0
HasNoFault L most raw b = HasNoFaultFramed false L most raw b

-- the least fault computed, if there is one: a law ties it to the definition
abbrev pub fault_behind : ℕ → Option ReadFault → LaidSchema → Bounds → Bytes → Option ReadFault
fault_behind p fault L most b = or_else fault (fault_from L b most (root_at L p) 0 0)

abbrev pub framed_fault : Bool → LaidSchema → Bounds → Bool → Bytes → Option ReadFault
framed_fault prefixed L most raw b =
    fault_behind (front_of prefixed) (front_fault prefixed b (checked_identifier L raw)) L most b

abbrev pub computed_fault : LaidSchema → Bounds → Bool → Bytes → Option ReadFault
computed_fault L most raw b = framed_fault false L most raw b

-- what a refusal tells: the least fault, and that the bytes hold no value
abbrev pub RefusesBehind : ℕ → Option ReadFault → LaidSchema → Bounds → Bytes → ReadFault → Type 0
RefusesBehind p fault L most b f =
    LeastFaultBehind p fault L most b f × ((v : Datum) → HoldsBehind p fault L most b v → ⊥)

abbrev pub RefusesFramed : Bool → LaidSchema → Bounds → Bool → Bytes → ReadFault → Type 0
RefusesFramed prefixed L most raw b f =
    RefusesBehind (front_of prefixed) (front_fault prefixed b (checked_identifier L raw)) L most b f

abbrev pub Refuses : LaidSchema → Bounds → Bool → Bytes → ReadFault → Type 0
Refuses L most raw b f = RefusesFramed false L most raw b f
