-- Whether the item at a place has a name.
use Rattle.std.proofs.Common.{◌≡◌, ◌↔◌, ℕ, Bool, List, map, Some, None, slice_get, bytes_eq, IsTrue, ap, sym, ◌∙◌}
use Rattle.std.specs.Option.{option_map}
use Rattle.std.proofs.lemmas.Option.{slice_get-map}
use Rattle.std.proofs.lemmas.Slice.Eq.{bytes_eq-Decides}
use Rattle.fb_schema.specs.Schema.{Name}

module _ {T : Type 0} (name_of : T → Name) (items : List T) (place : ℕ) (name : Name) where
  pub is_named : (item : T) (same : Bool) → Some item ≡ slice_get items place → same ≡ bytes_eq name (name_of item)
      → (IsTrue same) ↔ (slice_get (map name_of items) place ≡ Some name)
  is_named item same there is =
      let at : slice_get (map name_of items) place ≡ Some (name_of item) =
      slice_get-map name_of items place ∙ ap (option_map name_of) (sym there) in
      let decides = bytes_eq-Decides name (name_of item) in (
        λ yes. at ∙ ap (λ (n : Name). Some n) (sym (decides.0 (sym is ∙ yes))),
        λ found. is ∙ decides.1 (let same : Some (name_of item) ≡ Some name = sym at ∙ found in cc),
      )

  pub is_no_item : None ≡ slice_get items place → slice_get (map name_of items) place ≡ Some name → ⊥
  is_no_item none found =
      let at : slice_get (map name_of items) place ≡ None =
      slice_get-map name_of items place ∙ ap (option_map name_of) (sym none) in
      let no : None ≡ Some name = sym at ∙ found in cc
