use Rattle.std.proofs.Common.{◌≡◌, ℕ, List, map, position, Option, None, Some, bytes_eq, string_bytes}
use Rattle.std.proofs.Common.{ap, sym, ◌∙◌}
use Rattle.std.proofs.lemmas.Simd.{map-map}
use Rattle.fb_schema.specs.declared.types.TypeInfo.{TypeInfo}
use Rattle.fb_schema.specs.Schema.{Name, DeclaredType}
use Rattle.fb_schema.specs.Seen.{type_seen}
use Rattle.fb_schema.proofs.DeclaredNames.{keys_differ}
use Rattle.fb_schema.proofs.Positions.{position-map}
use Rattle.fb_schema.proofs.schema.Schema.find.Goals as goal

-- the full names of the borrowed types
names_lent : (types xs : List TypeInfo) → xs ≡ types
    → map (λ t. t.name) (map type_seen types) ≡ map (λ t. string_bytes t.name) xs
names_lent types xs lent = map-map (λ t. t.name) type_seen types ∙ ap (map (λ t. string_bytes t.name)) (sym lent)

-- a name's place in the list of the full names
placed : (types : List DeclaredType) (names : List Name) (name : Name) (at : Option ℕ) → map (λ t. t.name) types ≡ names
    → at ≡ position (bytes_eq name) names
    → at ≡ position (λ t. bytes_eq name t.name) types
placed types names name at listed place = place
    ∙ (ap (position (bytes_eq name)) (sym listed) ∙ position-map (λ t. t.name) (bytes_eq name) types)

pub position-requires-clause-indexed : goal.position-requires-clause-indexed
position-requires-clause-indexed c =
    rw (← (names_lent c.self.inside.types.items c.as_slice.result.now c.as_slice.ensures.value))
    (c.full_names-names.ensures (map type_seen c.self.inside.types.items) c.self.invariant.names)

pub position-requires-clause-distinct : goal.position-requires-clause-distinct
position-requires-clause-distinct c =
    rw (← (names_lent c.self.inside.types.items c.as_slice.result.now c.as_slice.ensures.value))
    (keys_differ (λ t. t.name) (map type_seen c.self.inside.types.items) c.self.invariant.declared.names)

pub returns-in_err-at : goal.returns-in_err-at
returns-in_err-at c =
    rw (c.from_residual.ensures, ← c.self.view_is)
    (placed (map type_seen c.self.inside.types.items) _ c.args.full_name.now None
    (names_lent c.self.inside.types.items c.as_slice.result.now c.as_slice.ensures.value) c.in_err-at.ensures)

pub returns : goal.returns
returns c =
    rw (← c.self.view_is)
    (placed (map type_seen c.self.inside.types.items) _ c.args.full_name.now (Some c.in_ok-at.at)
    (names_lent c.self.inside.types.items c.as_slice.result.now c.as_slice.ensures.value) c.in_ok-at.ensures)
