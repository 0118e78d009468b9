use Rattle.std.proofs.Common.{◌≡◌, ◌<◌, List, length, map, get_or, slice_get, Some, option_map, sym, ap, ◌∙◌, arith}
use Rattle.std.proofs.lemmas.List.{length-map}
use Rattle.std.proofs.lemmas.Option.{slice_get-map, slice_get-get_or}
use Rattle.fb_schema.specs.Schema.{DeclaredType, DeclaredSchema}
use Rattle.fb_schema.specs.Seen.{type_seen}
use Rattle.fb_conform.proofs.bodies.body_of.Goals as goal

pub returns-clause-declared : goal.returns-clause-declared
returns-clause-declared c =
    let S = c.args.layout.now.schema in
    let types = c.types.result.now in
    let t = c.args.type_id.0 in
    let info = get_or types t c.index-types-type_id.result in
    let all : map type_seen types ≡ S.types =
    c.types.ensures.types ∙ ap (λ (T : DeclaredSchema). T.types) c.schema.ensures.schema in
    let within : t < length types = omega (arith, c.requires, ap length all, length-map types type_seen) in
    let at : slice_get S.types t ≡ Some (type_seen info) =
    ap (λ (ts : List DeclaredType). slice_get ts t) (sym all) ∙ slice_get-map type_seen types t
    ∙ ap (option_map type_seen) (slice_get-get_or types t c.index-types-type_id.result within) in
    c.schema.ensures.made.declared.bodies t (type_seen info) at
