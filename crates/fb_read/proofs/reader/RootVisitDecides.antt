-- A visit from the root decides whether the buffer holds a value.
use Rattle.std.proofs.Common.{◌≡◌, ℕ, ◌+◌, ◌<◌, ◌⊎◌, List, [], ◌∷◌, Option, None, Some, Result, Ok, Err}
use Rattle.std.proofs.Common.{OnOk, IfErr, map, true, refl, arith}
use Rattle.fb_layout.specs.Laid.{LaidSchema}
use Rattle.fb_layout.specs.WellMade.{IsWellMade}
use Rattle.fb_value.specs.declared.faults.ReadFault.{ReadFault}
use Rattle.fb_value.specs.Bounds.{Bounds}
use Rattle.fb_value.specs.Counts.{is_whole}
use Rattle.fb_value.specs.Datum.{Datum}
use Rattle.fb_value.specs.Num.{Bytes, num}
use Rattle.fb_value.specs.Lies.{EntryAt, Lies}
use Rattle.fb_value.specs.Places.{part_place, table_part, Place}
use Rattle.fb_value.specs.Faults.{fault_from}
use Rattle.fb_value.proofs.rules.ComputedFaultIsTheLeast.{from_none, from_some}
use Rattle.fb_value.specs.Reached.{Path}
use Rattle.fb_value.specs.Holds.{HoldsBehind, NoFaultBehind, RefusesBehind, root_at}
use Rattle.fb_value.proofs.held.BytesHoldAValueOrAFault.{outcome_shown}
use Rattle.fb_read.specs.declared.buffer.Buffer.{Buffer}
use Rattle.fb_read.specs.declared.step.Step.{Step}
use Rattle.fb_read.specs.Entered.{parts_along, EntersToFault}
use Rattle.fb_read.specs.Ends.{ComesFrom, parts_in}
use Rattle.fb_read.specs.FaultPaths.{HearsFrom, LeastAt, LeadsToLeast, number_of}
use Rattle.fb_read.specs.Values.{Finds}
use Rattle.fb_read.specs.Visits.{Visits, outcome, visit}
use Rattle.fb_read.specs.Walks.{IsBufferOf, limits_of, visit_in, EntersAt}
use Rattle.fb_read.proofs.laws.ReachedPartsAreThoseOfTheValue.{parts_of_value_shown}
use Rattle.fb_value.proofs.reached.PathsAreInOrder.{same_path}

pub err_told : (o : Option ReadFault) (n : ℕ) (f : ReadFault) → outcome o n ≡ Err f → o ≡ Some f
err_told None n f e = cc
err_told (Some g) n f e = let is : g ≡ f = cc in rw is refl

pub ok_told : (o : Option ReadFault) (n m : ℕ) → outcome o n ≡ Ok m → o ≡ None
ok_told None n m e = refl
ok_told (Some g) n m e = cc

-- A visit finds the first fault, if there is one.
pub visit_finds : {T : Type 0} (L : LaidSchema) (b : Bytes) (most : Bounds) (x : Place) (tables spent after : ℕ)
    (r : Result T ReadFault) → Visits r after (visit L b most x tables spent)
    → Finds r (fault_from L b most x tables spent)
unfolding visit
visit_finds L b most x tables spent after (Ok y) gives = ok_told (fault_from L b most x tables spent) _ after gives
visit_finds L b most x tables spent after (Err f) gives = err_told (fault_from L b most x tables spent) _ f gives

-- What a walk has counted from 0 on is added to a count: the tables, vectors and texts of the value that lies there.
pub entered_more : {T : Type 0} (buffer : Buffer) (x : Place) (start ticks old new : ℕ) (r : Result T ReadFault)
    → start ≡ 0 → new ≡ old + ticks → OnOk r (ticks ≡ start + parts_in buffer x) → OnOk r (EntersAt buffer x old new)
entered_more buffer x start ticks old new (Ok y) none is counted = λ d lies.
    (let all = parts_of_value_shown buffer.layout.now buffer.bytes.now x d lies in
    omega (arith, none, is, all, counted))
entered_more buffer x start ticks old new (Err f) none is counted = tt

-- A visit that is refused gives the fault that is computed.
pub visit_fault_is : (L : LaidSchema) (b : Bytes) (most : Bounds) (x : Place) (tables spent : ℕ) (f : ReadFault)
    → visit L b most x tables spent ≡ Err f → fault_from L b most x tables spent ≡ Some f
unfolding visit
visit_fault_is L b most x tables spent f fails = err_told (fault_from L b most x tables spent) _ f fails

-- ---- the least fault is one

-- What a walk has entered up to the least fault, which is this one.
pub enters_to_fault : (L : LaidSchema) (b : Bytes) (most : Bounds) (x : Place) (path : Path) (f g : ReadFault)
    (start ticks old new : ℕ) → fault_from L b most x 0 0 ≡ Some f → LeastAt L b most x 0 0 path g
    → ticks ≡ start + parts_along L b x path → start ≡ 0 → new ≡ old + ticks → EntersToFault L b most x f old new
enters_to_fault L b most x path f g start ticks old new computed least entered none added =
    let found = from_some L b most x 0 0 f computed in
    let same : found.0 ≡ path = same_path found.0 path (λ before. least.1 found.0 f before found.1)
    (λ before. found.2 path g before least.0) in
    (path, (rw same at found.1, rw same at found.2), omega (arith, entered, none, added))

pub enters_refused : {H T : Type 0} (told : H → List Step → H → Type 0) (buffer : Buffer) (x : Place) (v w : H)
    (start ticks old new : ℕ) (r : Result T ReadFault)
    → IfErr r (λ f. (visit_in buffer x 0 0 ≡ Err f) × ComesFrom told buffer (Some x) 0 0 v w start ticks)
    → start ≡ 0 → new ≡ old + ticks
    → IfErr r (λ f. EntersToFault buffer.layout.now buffer.bytes.now (limits_of buffer) x f old new)
enters_refused told buffer x v w start ticks old new (Ok y) ends none added = tt
enters_refused told buffer x v w start ticks old new (Err f) ends none added =
    let L = buffer.layout.now in
    let b = buffer.bytes.now in
    let most = limits_of buffer in
    enters_to_fault L b most x (map number_of ends.1.steps) f ends.1.fault start ticks old new
    (visit_fault_is L b most x 0 0 f ends.0) ends.1.leads.0 ends.1.entered none added

module _ (p : ℕ) (front : Option ReadFault) (L : LaidSchema) (most : Bounds) (b : Bytes) (made : IsWellMade L) where
  -- refused behind a front that keeps its rules
  pub refused_root : (f : ReadFault) → front ≡ None → fault_from L b most (root_at L p) 0 0 ≡ Some f
      → RefusesBehind p front L most b f
  refused_root f header fails = outcome_shown p front L most b (Some f) made (rw header fails)

  -- A value is held.
  pub held_root : front ≡ None → fault_from L b most (root_at L p) 0 0 ≡ None
      → (v : Datum) × HoldsBehind p front L most b v
  held_root header fine = (outcome_shown p front L most b None made (rw header fine)).1

  -- What lies in the root table.
  pub view_lies : (t at : ℕ) → front ≡ None → fault_from L b most (root_at L p) 0 0 ≡ None → t ≡ L.schema.root
      → at ≡ p + num b p 4 → (d : Datum) × Lies L b (part_place (table_part t)) at d
  view_lies t at header fine root place =
      let held = held_root header fine in
      (held.0, rw (root, place) held.1.lies.1)

  -- What lies in the root table is whole, where what lies at the root is.
  pub view_known : (t at : ℕ) → front ≡ None → fault_from L b most (root_at L p) 0 0 ≡ None → t ≡ L.schema.root
      → at ≡ p + num b p 4 → ((d : Datum)
      → EntryAt L b (root_at L p).sort (root_at L p).at d (λ s q. Lies L b s q d) → is_whole d ≡ true)
      → (d : Datum) → Lies L b (part_place (table_part t)) at d → is_whole d ≡ true
  view_known t at header fine root place whole d lies =
      whole d ((held_root header fine).1.lies.0, rw (root, place) at lies)

module _ (p : ℕ) (front : Option ReadFault) (L : LaidSchema) (most : Bounds) (b : Bytes) where
  -- no fault behind a front that keeps its rules
  pub no_fault : front ≡ None → fault_from L b most (root_at L p) 0 0 ≡ None → NoFaultBehind p front L most b
  no_fault header fine = (header, from_none L b most (root_at L p) 0 0 fine)

-- A path to the least fault is one.
pub enters_along : (L : LaidSchema) (b : Bytes) (most : Bounds) (x : Place) (path : Path) (f g : ReadFault)
    (old new : ℕ) → EntersToFault L b most x f old new → LeastAt L b most x 0 0 path g
    → new ≡ old + parts_along L b x path
enters_along L b most x path f g old new enters least =
    let same : enters.0 ≡ path = same_path enters.0 path (λ before. least.1 enters.0 f before enters.1.0)
    (λ before. enters.1.1 path g before least.0) in
    rw same at enters.2

-- What was heard of a buffer's root, by the bytes.
pub leads_in_bytes : {H : Type 0} (told : H → List Step → H → Type 0) (L : LaidSchema) (b : Bytes) (most : Bounds)
    (buffer : Buffer) (p : ℕ) (v w : H) → IsBufferOf L b most buffer
    → HearsFrom told buffer (Some (root_at buffer.layout.now p)) 0 0 v w
    → (steps : List Step) × (f : ReadFault) × told v steps w × LeadsToLeast L b most (Some (root_at L p)) 0 0 steps f
leads_in_bytes told L b most buffer p v w same hears = (
  hears.steps,
  hears.fault,
  hears.heard,
  rw (same.layout, same.bytes, same.depth, same.cells) at hears.leads,
)
