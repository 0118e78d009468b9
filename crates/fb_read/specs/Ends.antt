-- How a walk ends at what it visits: it finds no fault there, or it is refused.
use Rattle.std.specs.Prelude.{ℕ, ◌+◌, ◌≡◌, ◌≤◌, List, ◌∷◌, map, take, Option, Some, Result, Ok, Err, MatchResult}
use Rattle.std.specs.Prelude.{IsTrue}
use Rattle.fb_schema.specs.declared.types.FieldInfo.{FieldInfo}
use Rattle.fb_value.specs.declared.faults.ReadFault.{ReadFault}
use Rattle.fb_value.specs.Faults.{sum_over}
use Rattle.fb_value.specs.Nth.{slot_place}
use Rattle.fb_value.specs.Places.{Place, named_slots}
use Rattle.fb_read.specs.declared.buffer.Buffer.{Buffer}
use Rattle.fb_read.specs.declared.step.Step.{Step}
use Rattle.fb_read.specs.declared.walk.Walk.{Walk}
use Rattle.fb_read.specs.Entered.{parts_from, parts_of, parts_to}
use Rattle.fb_read.specs.FaultPaths.{number_of, LeadsToLeast, ComesTo}
use Rattle.fb_read.specs.Visits.{slot_seen, slots_seen}
use Rattle.fb_read.specs.Whole.{WholeAt, WholeEntry, WholeEach}
use Rattle.fb_read.specs.Walks.{limits_of, visit_in, visit_each_in, visit_entry_in}

-- What is entered of a place and of what it leads to.
abbrev pub parts_in : Buffer → Place → ℕ
parts_in buffer x = parts_from buffer.layout.now buffer.bytes.now x

abbrev pub parts_in_entry : Buffer → Option Place → ℕ
parts_in_entry buffer o = parts_of buffer.layout.now buffer.bytes.now o

abbrev pub parts_in_each : Buffer → List (Option Place) → ℕ
parts_in_each buffer xs = sum_over (parts_from buffer.layout.now buffer.bytes.now) xs

-- A hearer was told the steps from a place to the least fault, and the counter has risen by the parts up to there.
pub record ComesFrom {H : Type 0} (told : H → List Step → H → Type 0) (buffer : Buffer) (o : Option Place)
    (tables spent : ℕ) (old new : H) (before after : ℕ) : Type 0 where
  pub steps : List Step
  pub fault : ReadFault
  pub heard : told old steps new
  pub leads : LeadsToLeast buffer.layout.now buffer.bytes.now (limits_of buffer) o tables spent steps fault
  pub entered : after ≡ before + parts_to buffer.layout.now buffer.bytes.now o (map number_of steps)

-- The same from some places, with the step to one of them before.
pub record ComesAmong {H : Type 0} (told : H → List Step → H → Type 0) (step_to : ℕ → Step) (buffer : Buffer)
    (xs : List (Option Place)) (tables spent : ℕ) (old new : H) (before after : ℕ) : Type 0 where
  pub index : ℕ
  pub there : Option Place
  pub spent_there : ℕ
  pub comes : ComesTo buffer xs tables spent spent_there index there
  pub steps : List Step
  pub fault : ReadFault
  pub heard : told old (step_to index ∷ steps) new
  pub leads : LeadsToLeast buffer.layout.now buffer.bytes.now (limits_of buffer) there tables spent_there steps fault
  pub entered : after ≡ before + (parts_in_each buffer (take index xs)
      + parts_to buffer.layout.now buffer.bytes.now there (map number_of steps))

-- A walk that is still whole behind what it has passed was so before it, and knows of no code without a member there.
abbrev pub StaysWhole : {H : Type 0} → Walk H → Walk H → Type 0 → Type 0
StaysWhole old new passed = IsTrue new.whole → IsTrue old.whole × passed

-- A visit that gives this found no fault: what it has spent and entered is counted, and its hearer has heard nothing.
pub record Passes {H : Type 0} (buffer : Buffer) (old new : Walk H) (given : Result ℕ ReadFault) (parts : ℕ)
    (passed : Type 0) : Type 0 where
  pub visit : given ≡ Ok new.spent
  pub few : new.spent ≤ buffer.most_cells
  pub ticks : new.ticks + old.spent ≤ old.ticks + new.spent
  pub exact : new.ticks ≡ old.ticks + parts
  pub silent : new.hearer ≡ old.hearer
  pub whole : StaysWhole old new passed

-- It was refused, and has come to the least fault. It has entered one part more than it has spent cells at most.
pub record IsRefused {H : Type 0} (buffer : Buffer) (old new : Walk H) (given : Result ℕ ReadFault) (reached : Type 0)
    (f : ReadFault) : Type 0 where
  pub visit : given ≡ Err f
  pub ticks : new.ticks + old.spent ≤ old.ticks + (buffer.most_cells + 1)
  pub comes : reached

abbrev pub Ends : {H T : Type 0} → Buffer → Walk H → Walk H → Result ℕ ReadFault → Type 0 → ℕ → Type 0
    → Result T ReadFault → Type 0
Ends buffer old new given comes parts passed result = MatchResult result
    (λ _. Passes buffer old new given parts passed) (λ f. IsRefused buffer old new given comes f)

-- past a place, with so many tables above it
abbrev pub PassesAt : {H : Type 0} → Buffer → Place → ℕ → Walk H → Walk H → Type 0
PassesAt buffer x tables old new =
    Passes buffer old new (visit_in buffer x tables old.spent) (parts_in buffer x) (WholeAt buffer x)

-- at a place, with so many tables above it
abbrev pub EndsAt : {H T : Type 0} → (H → List Step → H → Type 0) → Buffer → Place → ℕ → Walk H → Walk H
    → Result T ReadFault → Type 0
EndsAt told buffer x tables old new result = Ends buffer old new (visit_in buffer x tables old.spent)
    (ComesFrom told buffer (Some x) tables old.spent old.hearer new.hearer old.ticks new.ticks) (parts_in buffer x)
    (WholeAt buffer x) result

-- the place that a slot of the table at a position names, with the slots behind it
abbrev pub slot_at : Buffer → ℕ → ℕ → List FieldInfo → FieldInfo → Option Place
slot_at buffer p k later field = slot_place buffer.layout.now buffer.bytes.now p k (slots_seen buffer.layout.now later)
    (slot_seen buffer.layout.now field)

-- those that its slots name
abbrev pub slots_at : Buffer → ℕ → List FieldInfo → List (Option Place)
slots_at buffer p slots = named_slots buffer.layout.now buffer.bytes.now p 0 (slots_seen buffer.layout.now slots)

-- at a slot's place, if it names one
abbrev pub EndsAtEntry : {H T : Type 0} → (H → List Step → H → Type 0) → Buffer → Option Place → ℕ → Walk H → Walk H
    → Result T ReadFault → Type 0
EndsAtEntry told buffer x tables old new result = Ends buffer old new (visit_entry_in buffer x tables old.spent)
    (ComesFrom told buffer x tables old.spent old.hearer new.hearer old.ticks new.ticks) (parts_in_entry buffer x)
    (WholeEntry buffer x) result

-- at several places, one after another
abbrev pub EndsAtEach : {H T : Type 0} → (H → List Step → H → Type 0) → (ℕ → Step) → Buffer → List (Option Place) → ℕ
    → Walk H → Walk H → Result T ReadFault → Type 0
EndsAtEach told step_to buffer xs tables old new result =
    Ends buffer old new (visit_each_in buffer xs tables old.spent)
    (ComesAmong told step_to buffer xs tables old.spent old.hearer new.hearer old.ticks new.ticks)
    (parts_in_each buffer xs) (WholeEach buffer xs) result
