-- The path of the least fault, by steps that name what they lead to.
-- From the FlatBuffers documentation, "FlatBuffer Internals": Tables, Strings and vectors.
use Rattle.std.specs.Prelude.{ℕ, ◌≡◌, List, [], ◌∷◌, map, take, Option, None, Some, Ok, slice_get}
use Rattle.std.specs.Prelude.{Bool, Result, MatchResult}
use Rattle.fb_layout.specs.Laid.{LaidSchema}
use Rattle.fb_value.specs.declared.faults.ReadFault.{ReadFault}
use Rattle.fb_value.specs.Bounds.{Bounds}
use Rattle.fb_value.specs.Num.{Bytes}
use Rattle.fb_value.specs.Places.{table_part, member_part, vector_part, Sort, ref_place, part_place}
use Rattle.fb_value.specs.Places.{Place}
use Rattle.fb_value.specs.Reached.{Path, Names, ComesBefore}
use Rattle.fb_value.specs.Faults.{FaultFrom}
use Rattle.fb_value.specs.Holds.{front_of, front_fault, checked_identifier, root_at}
use Rattle.fb_read.specs.declared.step.Step.{Step}
use Rattle.fb_read.specs.declared.step.Step.TheVariants.{Reference, Slot, Element}
use Rattle.fb_read.specs.declared.buffer.Buffer.{Buffer}
use Rattle.fb_read.specs.Walks.{limits_of, visit_each_in}

-- which of the places that a place names a step leads to
abbrev pub number_of : Step → ℕ
number_of Reference = 0
number_of (Slot table k) = k
number_of (Element i) = i

-- a step is one from a place of this sort: of a table's slot it has the table's type
abbrev pub IsStepOf : Sort → Step → Type 0
IsStepOf (ref_place X) Reference = Unit {0}
IsStepOf (part_place (table_part t)) (Slot table k) = table.0 ≡ t
IsStepOf (part_place (member_part c t)) (Slot table k) = table.0 ≡ t
IsStepOf (part_place (vector_part kind)) (Element i) = Unit {0}
IsStepOf _ _ = ⊥

-- each step is one from the place that the steps before it lead to
abbrev pub AreStepsFrom : LaidSchema → Bytes → Place → List Step → Type 0
AreStepsFrom L b x [] = Unit {0}
AreStepsFrom L b x (step ∷ steps) = IsStepOf x.sort step × (next : Place) × Names L b x (number_of step) next
    × AreStepsFrom L b next steps

-- a fault at this path from x, and none at a path before it
abbrev pub LeastAt : LaidSchema → Bytes → Bounds → Place → ℕ → ℕ → Path → ReadFault → Type 0
LeastAt L b most x tables spent path f = FaultFrom L b most x tables spent path f
    × ((other : Path) (g : ReadFault) → ComesBefore other path → FaultFrom L b most x tables spent other g → ⊥)

-- The front keeps its rules, and the least fault behind it is at the end of these steps from the root's reference.
pub record IsFaultPathBehind (front : ℕ) (fault : Option ReadFault) (L : LaidSchema) (most : Bounds) (b : Bytes)
    (steps : List Step) (f : ReadFault) : Type 0 where
  pub header : fault ≡ None
  pub least : LeastAt L b most (root_at L front) 0 0 (map number_of steps) f
  pub each : AreStepsFrom L b (root_at L front) steps

abbrev pub IsFaultPathFramed : Bool → LaidSchema → Bounds → Bool → Bytes → List Step → ReadFault → Type 0
IsFaultPathFramed prefixed L most raw b steps f =
    IsFaultPathBehind (front_of prefixed) (front_fault prefixed b (checked_identifier L raw)) L most b steps f

-- The least fault from a place, if there is one, is at the end of these steps.
abbrev pub LeadsToLeast : LaidSchema → Bytes → Bounds → Option Place → ℕ → ℕ → List Step → ReadFault → Type 0
LeadsToLeast L b most None tables spent steps f = ⊥
LeadsToLeast L b most (Some x) tables spent steps f =
    LeastAt L b most x tables spent (map number_of steps) f × AreStepsFrom L b x steps

-- Behind those of some places that come before number k no fault is found, and so many cells are spent then.
pub record ComesTo (buffer : Buffer) (xs : List (Option Place)) (tables old new k : ℕ) (o : Option Place)
    : Type 0 where
  pub names : slice_get xs k ≡ Some o
  pub before : visit_each_in buffer (take k xs) tables old ≡ Ok new

-- A hearer was told the steps from a place to the least fault.
pub record HearsFrom {H : Type 0} (told : H → List Step → H → Type 0) (buffer : Buffer) (o : Option Place)
    (tables spent : ℕ) (old new : H) : Type 0 where
  pub steps : List Step
  pub fault : ReadFault
  pub heard : told old steps new
  pub leads : LeadsToLeast buffer.layout.now buffer.bytes.now (limits_of buffer) o tables spent steps fault

-- A hearer hears nothing of what was visited, or of the steps to its least fault.
abbrev pub Hears : {H T : Type 0} → (H → List Step → H → Type 0) → Buffer → Option Place → ℕ → ℕ → H → H
    → Result T ReadFault → Type 0
Hears told buffer o tables spent old new result = MatchResult result (λ _. new ≡ old)
    (λ f. HearsFrom told buffer o tables spent old new)
