-- Bytes hold a value, or have a least fault.
use Rattle.std.proofs.Common.{◌≡◌, ℕ, [], ◌∷◌, Option, None, Some, refl, sym, ◌∙◌, inl, inr}
use Rattle.fb_layout.specs.Laid.{LaidSchema}
use Rattle.fb_layout.specs.WellMade.{IsWellMade}
use Rattle.fb_value.specs.declared.faults.ReadFault.{ReadFault}
use Rattle.fb_value.specs.Bounds.{Bounds}
use Rattle.fb_value.specs.Num.{Bytes}
use Rattle.fb_value.specs.Places.{table_part, ref_place, Place}
use Rattle.fb_value.specs.Rules.{fault_at}
use Rattle.fb_value.specs.Reached.{Path, Leads, AllKeep}
use Rattle.fb_value.specs.Faults.{or_else, limited_fault, FaultFrom, fault_from}
use Rattle.fb_value.specs.Holds.{fault_behind, root_at}
use Rattle.fb_value.specs.Laws.{ValueWhereAllKeep, HeldOrFault, ValueOrFault}
use Rattle.fb_value.proofs.rules.ComputedFaultIsTheLeast.{from_none, from_some}
use Rattle.fb_value.proofs.laws.ReachedPlacesKeepTheirRules.{lies_all_keep}
use Rattle.fb_value.proofs.types.StoredKindsAreResolved.{resolved}
use Rattle.fb_value.proofs.laws.ValueLiesWhereAllKeep.{all_keep_lies}
use Rattle.fb_value.proofs.laws.NoFaultWithinTheLimits.{root_sure}

-- A rule that fails at a place that is reached is a fault, whatever the limits.
pub leads_fault : (L : LaidSchema) (b : Bytes) (most : Bounds) (path : Path) (x y : Place) (tables spent : ℕ)
    (f : ReadFault) → Leads L b x path y → fault_at L b y.sort y.at ≡ Some f → FaultFrom L b most x tables spent path f
unfolding limited_fault
leads_fault L b most [] x y tables spent f leads fails = rw (leads, fails) refl
leads_fault L b most (k ∷ path) x y tables spent f leads fails =
    (leads.0, leads.1, leads.2, leads_fault L b most path leads.1 y _ _ f leads.3 fails)

-- Where no fault is computed, each place that is reached keeps its rules.
pub all_keep : (L : LaidSchema) (b : Bytes) (most : Bounds) (x : Place) → fault_from L b most x 0 0 ≡ None
    → AllKeep L b x
all_keep L b most x none path y leads = by_case (fault_at L b y.sort y.at) refl
  where
    by_case : (o : Option ReadFault) → fault_at L b y.sort y.at ≡ o → fault_at L b y.sort y.at ≡ None
    by_case None e = e
    by_case (Some f) e = absurd (from_none L b most x 0 0 none path f (leads_fault L b most path x y 0 0 f leads e))

-- A value lies at the root exactly where each place that is reached keeps its rules.
pub value_where_all_keep_shown : ValueWhereAllKeep
value_where_all_keep_shown L b p made = (
  λ found. lies_all_keep L b (root_at L p) found.0 found.1,
  λ keep. all_keep_lies L b _ (resolved L made)
      (table_part L.schema.root) p tt keep,
)

module _ (p : ℕ) (fault : Option ReadFault) (L : LaidSchema) (most : Bounds) (b : Bytes) (made : IsWellMade L) where
  -- with a front that keeps its rules
  by_outcome : fault ≡ None → (o : Option ReadFault) → fault_from L b most (root_at L p) 0 0 ≡ o
      → HeldOrFault p fault L most b o
  by_outcome header None e =
      let held = all_keep_lies L b _ (resolved L made) (table_part L.schema.root) p tt
      (all_keep L b most (root_at L p) e) in
      let within = (root_sure L b most (ref_place (table_part L.schema.root)) p held.0 held.1).0 e in (
        (header, from_none L b most (root_at L p) 0 0 e),
        (held.0, record { header = header; lies = held.1; deep = within.0; small = within.1 }),
      )
  by_outcome header (Some f) e = (
    inr (header, from_some L b most (root_at L p) 0 0 f e),
    λ v holds.
        let none = (root_sure L b most (ref_place (table_part L.schema.root)) p v holds.lies).1
        (holds.deep, holds.small) in
        let clash : Some f ≡ None = sym e ∙ none in
        cc,
  )

  -- with any front
  by_front : (o : Option ReadFault) → fault ≡ o
      → HeldOrFault p fault L most b (or_else o (fault_from L b most (root_at L p) 0 0))
  by_front None e = by_outcome e _ refl
  by_front (Some f) e = (
    inl e,
    λ v holds.
        let clash : Some f ≡ None = sym e ∙ holds.header in
        cc,
  )

-- Bytes hold a value exactly where no fault stands, and else have a least one.
pub value_or_fault_shown : ValueOrFault
value_or_fault_shown p fault L most b made = by_front p fault L most b made _ refl

-- The same of an outcome that is known: none, or a fault.
pub outcome_shown : (p : ℕ) (fault : Option ReadFault) (L : LaidSchema) (most : Bounds) (b : Bytes)
    (o : Option ReadFault) → IsWellMade L → fault_behind p fault L most b ≡ o → HeldOrFault p fault L most b o
outcome_shown p fault L most b o made e = rw (← e) (value_or_fault_shown p fault L most b made)
