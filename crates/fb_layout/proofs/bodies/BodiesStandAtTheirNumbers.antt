-- What is found at a number among a schema's types is what the schema has there.
use Rattle.std.proofs.Common.{◌≡◌, ℕ, Bor, List, length, map, get_or, Option, slice_get, is_some, nat_lt, ap, sym, ◌∙◌}
use Rattle.std.specs.Option.{option_copied, option_map, IfSome}
use Rattle.std.proofs.lemmas.Option.{slice_get-map}
use Rattle.fb_schema.specs.Schema.{DeclaredBody, DeclaredType, DeclaredSchema, body_in, body_at}
use Rattle.fb_schema.specs.Seen.{type_seen}
use Rattle.fb_schema.specs.declared.types.TypeInfo.{TypeInfo}
use Rattle.fb_schema.proofs.Got.{got}

abbrev pub body_of : Option (Bor TypeInfo) → DeclaredBody
body_of o = body_in (option_map type_seen (option_copied o))

pub body_there : (types : List TypeInfo) (S : DeclaredSchema) (t : ℕ) (o : Option (Bor TypeInfo))
    → map type_seen types ≡ S.types → is_some o ≡ nat_lt t (length types)
    → IfSome o (λ x. x.now ≡ get_or types t x.now) → body_of o ≡ body_at S t
body_there types S t o all found at =
    ap (λ (x : Option TypeInfo). body_in (option_map type_seen x)) (got types t o found at)
    ∙ ap body_in (sym (slice_get-map type_seen types t))
    ∙ ap (λ (ts : List DeclaredType). body_in (slice_get ts t)) all
