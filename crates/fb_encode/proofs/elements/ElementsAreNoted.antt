-- The elements of a vector of numbers or structs are noted one after the other.
use Rattle.std.proofs.Common.{◌≡◌, ◌+◌, ◌≤◌, ◌<◌, ◌++◌, ◌∷◌, [], ℕ, true, List, Ok, length, drop, refl, sym, ap, ◌∙◌}
use Rattle.std.proofs.Common.{subst}
use Rattle.std.proofs.Common.{get_or, Bool, zero, suc}
use Rattle.std.proofs.lemmas.List.{drop_all}
use Rattle.std.proofs.Common.{add-one, drop-cons}
use Rattle.serde_json.specs.View.{view as tree_view, items_view}
use Rattle.serde_json.specs.declared.value.Value.{Value as Json}
use Rattle.fb_schema.specs.declared.kinds.Kind.{Kind}
use Rattle.fb_schema.specs.declared.kinds.Shape.TheVariants.{One}
use Rattle.fb_layout.specs.Laid.{LaidSchema, StoredKind, one_of}
use Rattle.fb_value.specs.Counts.{is_whole}
use Rattle.fb_value.specs.Datum.{Datum}
use Rattle.fb_value.specs.Fits.{Fits}
use Rattle.fb_json.specs.declared.faults.Place.{Place}
use Rattle.fb_json.specs.declared.faults.JsonFault.{JsonFault}
use Rattle.fb_json.specs.Meant.{items_meant, meant}
use Rattle.fb_json.specs.Outcome.{Counted, Fails}
use Rattle.fb_json.proofs.slots.OneSlotOrFieldMore.{after, fails_by, items_end, items_next, items_ungiven}
use Rattle.fb_build.specs.OneByOne.{EachElementFits}
use Rattle.fb_build.proofs.noted.OneMoreFits.{elements_more}
use Rattle.fb_json.proofs.slots.OneSlotOrFieldMore.{drop_at}

pub one_more_fits : (L : LaidSchema) (kind : StoredKind) (ds : List Datum) (d : Datum) → Fits L (one_of kind) d
    → is_whole d ≡ true → EachElementFits L kind ds → EachElementFits L kind (ds ++ (d ∷ []))
one_more_fits L kind ds d fits whole before = elements_more L kind ds d one before
  where
    one : EachElementFits L kind (d ∷ [])
    one zero y at = (let same : d ≡ y = cc in
        subst (λ (z : Datum). Fits L (one_of kind) z × (is_whole z ≡ true)) same (fits, whole))
    one (suc k) y at = cc

module _ (L : LaidSchema) (unknown : Bool) (kind : Kind) (at : Place) (levels left : ℕ) (given : Counted (List Datum))
    (front : List Datum) (elements : List Json) (i : ℕ) (v : Json) (low : i < length elements)
    (is : v ≡ get_or elements i v)
    (so_far : given ≡ after front (items_meant L unknown (items_view (drop i elements)) kind at levels left)) where
  turned : drop i elements ≡ v ∷ drop (i + 1) elements
  turned = drop_at elements i v low is

  -- the element behind those that were read
  pub one_more_given : (d : Datum) (rest : ℕ) → meant L unknown (tree_view v) (One kind) at levels left ≡ Ok (d, rest)
      → given ≡ after (front ++ (d ∷ []))
      (items_meant L unknown (items_view (drop (i + 1) elements)) kind at levels rest)
  one_more_given d rest meant_is =
      so_far
      ∙ ap (λ (vs : List Json). after front (items_meant L unknown (items_view vs) kind at levels left)) turned
      ∙ items_next L unknown kind at levels left front v (drop (i + 1) elements) d rest meant_is

  pub one_refused : (f : JsonFault) → Fails f (meant L unknown (tree_view v) (One kind) at levels left)
      → Fails f given
  one_refused f fails = fails_by f (meant L unknown (tree_view v) (One kind) at levels left) given (λ h.
      so_far
      ∙ ap (λ (vs : List Json). after front (items_meant L unknown (items_view vs) kind at levels left)) turned
      ∙ items_ungiven L unknown kind at levels left front v (drop (i + 1) elements) f h) fails

-- all elements are read
pub all_given : (L : LaidSchema) (unknown : Bool) (kind : Kind) (at : Place) (levels left : ℕ)
    (given : Counted (List Datum)) (front : List Datum) (elements : List Json) (i : ℕ) → length elements ≤ i
    → given ≡ after front (items_meant L unknown (items_view (drop i elements)) kind at levels left)
    → given ≡ Ok (front, left)
all_given L unknown kind at levels left given front elements i past so_far =
    let none : drop i elements ≡ [] = drop_all i elements past in
    so_far
    ∙ ap (λ (vs : List Json). after front (items_meant L unknown (items_view vs) kind at levels left)) none
    ∙ items_end L unknown kind at levels left front
