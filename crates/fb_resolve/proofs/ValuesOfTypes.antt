-- What is noted of the values of each type.
use Rattle.std.proofs.Common.{ℕ, ◌≡◌, ◌<◌, ◌∙◌, List, ap, get_or, length, map, sym}
use Rattle.std.proofs.lemmas.List.{get_or-map}
use Rattle.fb_resolve.specs.Outline.{TypeRead}
use Rattle.fb_resolve.specs.ResolvedFields.{EnumValues}
use Rattle.fb_resolve.specs.EnumValues.{enum_values_of}

-- that of the type at a place is what its declaration says
pub values_at : (types : List TypeRead) (values : List EnumValues) (i : ℕ) (r : TypeRead) (v : EnumValues)
    → values ≡ map (enum_values_of types) types → i < length types → r ≡ get_or types i r → v ≡ get_or values i v
    → v ≡ enum_values_of types r
values_at types values i r v all l at is =
    is ∙ ap (λ vs. get_or vs i v) all ∙ get_or-map (enum_values_of types) types i r v l
    ∙ ap (enum_values_of types) (sym at)
