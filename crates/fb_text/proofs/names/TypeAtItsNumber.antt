-- The body of what is found at a number among a schema's types is what the schema has there.
use Rattle.std.proofs.Common.{◌≡◌, ℕ, Bor, List, [], length, map, get_or, Option, slice_get, is_some}
use Rattle.std.proofs.Common.{nat_lt, refl, ap, sym, ◌∙◌}
use Rattle.std.specs.Option.{option_copied, option_map, option_map_or, unwrap_or, IfSome}
use Rattle.std.proofs.lemmas.Option.{slice_get-map}
use Rattle.fb_schema.specs.Schema.{DeclaredBody, DeclaredType, DeclaredSchema, body_in, body_at}
use Rattle.fb_schema.specs.Schema.{table_body, struct_body, enum_body, union_body, values_in, members_in}
use Rattle.fb_schema.specs.Bodies.{as_enum, as_union}
use Rattle.fb_schema.specs.Seen.{type_seen}
use Rattle.fb_schema.specs.declared.types.TypeInfo.{TypeInfo}
use Rattle.fb_schema.proofs.Got.{got}

pub body_there : (types : List TypeInfo) (S : DeclaredSchema) (t : ℕ) (o : Option (Bor TypeInfo))
    → map type_seen types ≡ S.types → is_some o ≡ nat_lt t (length types)
    → IfSome o (λ x. x.now ≡ get_or types t x.now) → body_in (option_map type_seen (option_copied o)) ≡ body_at S t
body_there types S t o all found at =
    ap (λ (x : Option TypeInfo). body_in (option_map type_seen x)) (got types t o found at)
    ∙ ap body_in (sym (slice_get-map type_seen types t))
    ∙ ap (λ (ts : List DeclaredType). body_in (slice_get ts t)) all

-- the values of an enum and the members of a union, as they are asked for
pub values_asked : (b : DeclaredBody) → option_map_or (λ e. e.2) (as_enum b) [] ≡ values_in b
values_asked (table_body fs) = refl
values_asked (struct_body fs align) = refl
values_asked (enum_body base flags values) = refl
values_asked (union_body members) = refl

pub members_asked : (b : DeclaredBody) → unwrap_or (as_union b) [] ≡ members_in b
members_asked (table_body fs) = refl
members_asked (struct_body fs align) = refl
members_asked (enum_body base flags values) = refl
members_asked (union_body members) = refl
