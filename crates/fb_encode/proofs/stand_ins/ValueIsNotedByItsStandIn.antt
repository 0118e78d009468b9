-- A value, or an element, is noted, or refused, as one in its place that means the same.
use Rattle.std.proofs.Common.{◌≡◌, ◌∷◌, ℕ, Bool, List, Result, Ok, ap, subst, sym}
use Rattle.serde_json.specs.Data.{Data, item, no_items}
use Rattle.fb_schema.specs.declared.kinds.Kind.{Kind}
use Rattle.fb_schema.specs.declared.kinds.Shape.{Shape}
use Rattle.fb_schema.specs.declared.kinds.Shape.TheVariants.{One}
use Rattle.fb_layout.specs.Laid.{LaidSchema, StoredKind, StoredShape}
use Rattle.fb_value.specs.Datum.{Datum}
use Rattle.fb_tape.specs.Tapes.{Taped}
use Rattle.fb_json.specs.declared.faults.JsonFault.{JsonFault}
use Rattle.fb_json.specs.declared.faults.Place.{Place}
use Rattle.fb_json.specs.Meant.{items_meant, meant}
use Rattle.fb_json.specs.Outcome.{◌>>=◌, Counted}
use Rattle.fb_encode.specs.StandIns.{AreAlike}
use Rattle.fb_encode.specs.TextsRead.{AreElementsAddedOr, IsNotedOr}

module _ (L : LaidSchema) (unknown : Bool) (t d : Data) where
  pub noted_by_stand_in : (stored : StoredShape) (shape : Shape) (at : Place) (levels left : ℕ) (a b : Taped)
      (r : Result ℕ JsonFault) → AreAlike L unknown shape t d
      → IsNotedOr L stored (meant L unknown d shape at levels left) a b r
      → IsNotedOr L stored (meant L unknown t shape at levels left) a b r
  noted_by_stand_in stored shape at levels left a b r alike =
      subst (λ (given : Counted Datum). IsNotedOr L stored given a b r) (sym (alike.value at levels left))

  module _ (kind : Kind) (at : Place) (levels : ℕ) (alike : AreAlike L unknown (One kind) t d) where
    abbrev lone : Data → ℕ → Counted (List Datum)
    lone e rest = items_meant L unknown (item e no_items) kind at levels rest

    lone_is : (rest : ℕ) → lone d rest ≡ lone t rest
    lone_is rest =
        ap (λ (r : Counted Datum). r >>= λ x.
        items_meant L unknown no_items kind at levels x.1 >>= λ xs. Ok (x.0 ∷ xs.0, xs.1))
        (sym (alike.value at levels rest))

    pub element_by_stand_in : (stored : StoredKind) (AddsAll : Taped → Taped → List Datum → Type 0) (a b : Taped)
        (left : ℕ) (r : Result ℕ JsonFault) → AreElementsAddedOr L stored AddsAll (lone d left) 1 a b r
        → AreElementsAddedOr L stored AddsAll (lone t left) 1 a b r
    element_by_stand_in stored AddsAll a b left r =
        subst (λ (given : Counted (List Datum)). AreElementsAddedOr L stored AddsAll given 1 a b r) (lone_is left)
