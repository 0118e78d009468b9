-- A step to the first place under which there is a fault leads to the least.
use Rattle.std.proofs.Common.{◌≡◌, ℕ, ◌+◌, ◌<◌, inl, inr, List, [], ◌∷◌, take, map, Option}
use Rattle.std.proofs.Common.{None, Some, Ok, Err, zero, suc}
use Rattle.std.proofs.Common.{slice_get, refl, sym, ◌∙◌}
use Rattle.fb_layout.specs.Laid.{LaidSchema}
use Rattle.fb_value.specs.declared.faults.ReadFault.{ReadFault}
use Rattle.fb_value.specs.Bounds.{Bounds}
use Rattle.fb_value.specs.Num.{Bytes, num}
use Rattle.fb_value.specs.Places.{Place, named, table_part, member_part, ref_place, part_place}
use Rattle.fb_value.specs.Rules.{Keeps, fault_at, fault_by, first_failing}
use Rattle.fb_value.specs.Reached.{Path, ComesBefore}
use Rattle.fb_value.specs.Faults.{own_cells, own_tables, sum_over, all, or_else, limit_rules, limited_fault, FaultFrom}
use Rattle.fb_value.specs.Faults.{fault_from}
use Rattle.fb_value.proofs.rules.ComputedFaultIsTheLeast.{limited_none, same_entry, from_none}
use Rattle.fb_value.proofs.rules.FaultOfAPlaceByOneStep.{fault_from_is}
use Rattle.fb_read.specs.declared.buffer.Buffer.{Buffer}
use Rattle.fb_read.specs.declared.step.Step.{Step}
use Rattle.fb_read.specs.declared.step.Step.TheVariants.{Reference, Slot, Element}
use Rattle.fb_read.specs.Visits.{visit}
use Rattle.fb_read.specs.Walks.{place, limits_of, visit_in, visit_each_in}
use Rattle.fb_read.specs.FaultPaths.{number_of, IsStepOf, AreStepsFrom, LeastAt, LeadsToLeast}
use Rattle.fb_read.proofs.reader.RootVisitDecides.{err_told}
use Rattle.fb_read.proofs.visit_tables.FrontIsFreeOfFaults.{front_free}

module _ (L : LaidSchema) (b : Bytes) (most : Bounds) where
  -- the place's own
  own_least : (x : Place) (tables spent : ℕ) (f : ReadFault)
      → limited_fault L b most x (tables + own_tables x.sort) (spent + own_cells b x.sort x.at) ≡ Some f
      → LeastAt L b most x tables spent [] f
  own_least x tables spent f e = (e, none)
    where
      none : (other : Path) (g : ReadFault) → ComesBefore other [] → FaultFrom L b most x tables spent other g → ⊥
      none [] g below fault = below
      none (k ∷ path) g below fault = below

  module _ (x : Place) (tables spent k : ℕ) (y : Place) (path : Path) (f : ReadFault)
      (fine : limited_fault L b most x (tables + own_tables x.sort) (spent + own_cells b x.sort x.at) ≡ None)
      (names : slice_get (named L b x.sort x.at) k ≡ Some (Some y))
      (before : (j : ℕ) (z : Place) → j < k → slice_get (named L b x.sort x.at) j ≡ Some (Some z)
      → fault_from L b most z (tables + own_tables x.sort) ((spent + own_cells b x.sort x.at)
      + sum_over (all L b) (take j (named L b x.sort x.at))) ≡ None)
      (below : LeastAt L b most y (tables + own_tables x.sort) ((spent + own_cells b x.sort x.at)
      + sum_over (all L b) (take k (named L b x.sort x.at))) path f) where
    -- No path before has a fault.
    none_before : (other : Path) (g : ReadFault) → ComesBefore other (k ∷ path)
        → FaultFrom L b most x tables spent other g → ⊥
    none_before [] g less fault = cc
    none_before (j ∷ js) g (inl less) fault =
        from_none L b most fault.1 _ _ (before j fault.1 less fault.2) js g fault.3
    none_before (j ∷ js) g (inr same) fault =
        let is : fault.1 ≡ y = same_entry (named L b x.sort x.at) j k fault.1 y same.0 fault.2 names in
        below.1 js g same.1
        (rw (is, same.0) at fault.3)

    -- The fault at the end of the longer path is the least.
    step_least : LeastAt L b most x tables spent (k ∷ path) f
    step_least = ((limited_none L b most x _ _ fine, y, names, below.0), none_before)

-- One step from x: x has no fault itself, and there is none under the places before.
pub record StepsTo (buffer : Buffer) (x : Place) (tables spent : ℕ) (step : Step) (o : Option Place)
    (tables2 spent2 : ℕ) : Type 0 where
  pub fine : limited_fault buffer.layout.now buffer.bytes.now (limits_of buffer) x (tables + own_tables x.sort) (spent
      + own_cells buffer.bytes.now x.sort x.at) ≡ None
  pub of_sort : IsStepOf x.sort step
  pub names : slice_get (named buffer.layout.now buffer.bytes.now x.sort x.at) (number_of step) ≡ Some o
  pub above : tables2 ≡ tables + own_tables x.sort
  pub before : visit_each_in buffer (take (number_of step) (named buffer.layout.now buffer.bytes.now x.sort x.at))
      tables2 (spent + own_cells buffer.bytes.now x.sort x.at) ≡ Ok spent2

-- A step more in front.
one_step : (buffer : Buffer) (x : Place) (tables spent : ℕ) (step : Step) (y : Place) (tables2 spent2 : ℕ) (path : Path)
    (f : ReadFault) → StepsTo buffer x tables spent step (Some y) tables2 spent2
    → LeastAt buffer.layout.now buffer.bytes.now (limits_of buffer) y tables2 spent2 path f
    → LeastAt buffer.layout.now buffer.bytes.now (limits_of buffer) x tables spent (number_of step ∷ path) f
one_step buffer x tables spent step y tables2 spent2 path f steps below =
    let L = buffer.layout.now in
    let b = buffer.bytes.now in
    let most = limits_of buffer in
    let mid = spent + own_cells b x.sort x.at in
    let xs = named L b x.sort x.at in
    let free = front_free L b most xs (number_of step) (tables + own_tables x.sort) mid spent2
    (rw steps.above at steps.before) in
    step_least L b most x tables spent (number_of step) y path f steps.fine steps.names free.0
    (rw free.1 (rw steps.above at below))

-- Steps to the least fault from where a step leads, with that step before them.
pub one_more : (buffer : Buffer) (x : Place) (tables spent : ℕ) (step : Step) (o : Option Place)
    (tables2 spent2 : ℕ) (rest : List Step) (f : ReadFault) → StepsTo buffer x tables spent step o tables2 spent2
    → LeadsToLeast buffer.layout.now buffer.bytes.now (limits_of buffer) o tables2 spent2 rest f
    → LeadsToLeast buffer.layout.now buffer.bytes.now (limits_of buffer) (Some x) tables spent (step ∷ rest) f
one_more buffer x tables spent step None tables2 spent2 rest f steps leads = absurd leads
one_more buffer x tables spent step (Some y) tables2 spent2 rest f steps leads = (
  one_step buffer x tables spent step y tables2 spent2 (map number_of rest) f steps leads.0,
  (steps.of_sort, y, steps.names, leads.1),
)

-- The place breaks a rule, or passes a limit, itself.
abbrev pub IsFaulty : Buffer → Place → ℕ → ℕ → Type 0
IsFaulty buffer x tables spent = (f : ReadFault)
    × (limited_fault buffer.layout.now buffer.bytes.now (limits_of buffer) x (tables + own_tables x.sort)
    (spent + own_cells buffer.bytes.now x.sort x.at) ≡ Some f)

-- No step is left where the fault is the place's own.
pub own_end : (buffer : Buffer) (x : Place) (tables spent : ℕ) → IsFaulty buffer x tables spent
    → (f : ReadFault) × LeadsToLeast buffer.layout.now buffer.bytes.now (limits_of buffer) (Some x) tables spent [] f
own_end buffer x tables spent faulty = (
  faulty.0,
  (
    own_least buffer.layout.now buffer.bytes.now (limits_of buffer) x tables spent faulty.0 faulty.1,
    tt,
  ),
)

-- What names nothing has the fault itself.
last_one : (o r : Option ReadFault) (f : ReadFault) → r ≡ None → or_else o r ≡ Some f → o ≡ Some f
last_one None r f none e = cc
last_one (Some g) r f none e = e

pub names_nothing : (buffer : Buffer) (x : Place) (tables spent : ℕ) (f : ReadFault)
    → visit_in buffer x tables spent ≡ Err f
    → named buffer.layout.now buffer.bytes.now x.sort x.at ≡ [] → IsFaulty buffer x tables spent
unfolding visit
names_nothing buffer x tables spent f fails none =
    let L = buffer.layout.now in
    let b = buffer.bytes.now in
    let most = limits_of buffer in
    let fault = sym (fault_from_is L b most x tables spent) ∙ err_told (fault_from L b most x tables spent) _ f
    fails in
    (f, last_one _ _ f (rw none refl) fault)

-- A rule that fails, or a limit that is passed, is the place's own fault.
pub rule_fails : (buffer : Buffer) (x : Place) (tables spent : ℕ) (f : ReadFault)
    → fault_at buffer.layout.now buffer.bytes.now x.sort x.at ≡ Some f → IsFaulty buffer x tables spent
unfolding limited_fault
rule_fails buffer x tables spent f fails = (f, rw fails refl)

pub limit_fails : (buffer : Buffer) (x : Place) (tables spent : ℕ) (f : ReadFault)
    → Keeps buffer.layout.now buffer.bytes.now x.sort x.at
    → first_failing (limit_rules (limits_of buffer) x.sort x.at (tables + own_tables x.sort) (spent
    + own_cells buffer.bytes.now x.sort x.at)) ≡ Some f → IsFaulty buffer x tables spent
unfolding limited_fault
limit_fails buffer x tables spent f keeps fails = (f, rw (keeps, fails) refl)

-- Where neither is so the place has no fault.
pub none_itself : (buffer : Buffer) (x : Place) (tables spent : ℕ)
    → Keeps buffer.layout.now buffer.bytes.now x.sort x.at
    → first_failing (limit_rules (limits_of buffer) x.sort x.at (tables + own_tables x.sort) (spent
    + own_cells buffer.bytes.now x.sort x.at)) ≡ None
    → limited_fault buffer.layout.now buffer.bytes.now (limits_of buffer) x (tables + own_tables x.sort) (spent
    + own_cells buffer.bytes.now x.sort x.at) ≡ None
unfolding limited_fault
none_itself buffer x tables spent keeps fine = rw (keeps, fine) refl

-- ---- a union's member leads on as its table

module _ (L : LaidSchema) (b : Bytes) (most : Bounds) (c t : ℕ) where
  member_part_fault : (p tables spent : ℕ) (path : Path) (f : ReadFault)
      → FaultFrom L b most (place (part_place (table_part t)) p) tables spent path f
      → FaultFrom L b most (place (part_place (member_part c t)) p) tables spent path f
  unfolding limited_fault fault_by
  member_part_fault p tables spent [] f h = h
  member_part_fault p tables spent (k ∷ path) f h = h

  table_part_fault : (p tables spent : ℕ) (path : Path) (f : ReadFault)
      → FaultFrom L b most (place (part_place (member_part c t)) p) tables spent path f
      → FaultFrom L b most (place (part_place (table_part t)) p) tables spent path f
  unfolding limited_fault fault_by
  table_part_fault p tables spent [] f h = h
  table_part_fault p tables spent (k ∷ path) f h = h

  member_fault_from : (p tables spent : ℕ) (path : Path) (f : ReadFault)
      → FaultFrom L b most (place (ref_place (table_part t)) p) tables spent path f
      → FaultFrom L b most (place (ref_place (member_part c t)) p) tables spent path f
  unfolding limited_fault fault_by
  member_fault_from p tables spent [] f h = h
  member_fault_from p tables spent (zero ∷ path) f (keeps, next, names, rest) =
      let is : next ≡ place (part_place (table_part t)) (p + num b p 4) = cc in (
        keeps,
        place (part_place (member_part c t)) (p + num b p 4),
        refl,
        member_part_fault (p + num b p 4) (tables + 0) ((spent + 0) + 0) path f (rw is at rest),
      )
  member_fault_from p tables spent (suc k ∷ path) f (keeps, next, names, rest) = cc

  table_fault_from : (p tables spent : ℕ) (path : Path) (f : ReadFault)
      → FaultFrom L b most (place (ref_place (member_part c t)) p) tables spent path f
      → FaultFrom L b most (place (ref_place (table_part t)) p) tables spent path f
  unfolding limited_fault fault_by
  table_fault_from p tables spent [] f h = h
  table_fault_from p tables spent (zero ∷ path) f (keeps, next, names, rest) =
      let is : next ≡ place (part_place (member_part c t)) (p + num b p 4) = cc in (
        keeps,
        place (part_place (table_part t)) (p + num b p 4),
        refl,
        table_part_fault (p + num b p 4) (tables + 0) ((spent + 0) + 0) path f (rw is at rest),
      )
  table_fault_from p tables spent (suc k ∷ path) f (keeps, next, names, rest) = cc

  member_part_steps : (p : ℕ) (steps : List Step)
      → AreStepsFrom L b (place (part_place (table_part t)) p) steps
      → AreStepsFrom L b (place (part_place (member_part c t)) p) steps
  member_part_steps p [] h = h
  member_part_steps p (Slot table k ∷ steps) h = h
  member_part_steps p (Reference ∷ steps) h = absurd h.0
  member_part_steps p (Element i ∷ steps) h = absurd h.0

  member_steps : (p : ℕ) (steps : List Step) → AreStepsFrom L b (place (ref_place (table_part t)) p) steps
      → AreStepsFrom L b (place (ref_place (member_part c t)) p) steps
  member_steps p [] h = h
  member_steps p (Reference ∷ steps) (of_sort, next, names, rest) =
      let is : next ≡ place (part_place (table_part t)) (p + num b p 4) = cc in (
        tt,
        place (part_place (member_part c t)) (p + num b p 4),
        refl,
        member_part_steps (p + num b p 4) steps (rw is at rest),
      )
  member_steps p (Slot table k ∷ steps) h = absurd h.0
  member_steps p (Element i ∷ steps) h = absurd h.0

  pub member_leads : (p tables spent : ℕ) (steps : List Step) (f : ReadFault)
      → LeadsToLeast L b most (Some (place (ref_place (table_part t)) p)) tables spent steps f
      → LeadsToLeast L b most (Some (place (ref_place (member_part c t)) p)) tables spent steps f
  member_leads p tables spent steps f leads = (
    (
      member_fault_from p tables spent (map number_of steps) f leads.0.0,
      λ other g before fault. leads.0.1 other g before (table_fault_from p tables spent other g fault),
    ),
    member_steps p steps leads.1,
  )
