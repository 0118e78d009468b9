use Rattle.std.proofs.Common.{List, bytes_eq, slice_get, None, Some, ap, sym, ◌∙◌}
use Rattle.std.specs.Option.{option_map}
use Rattle.std.proofs.lemmas.Option.{slice_get-map}
use Rattle.fb_schema.specs.Schema.{DeclaredField}
use Rattle.fb_schema.specs.Seen.{field_seen, body_seen}
use Rattle.fb_schema.specs.Found.{fields_in}
use Rattle.fb_schema.proofs.Got.{got}
use Rattle.fb_schema.proofs.LookUps.{keys_seen, found_through, fields_indexed, fields_differ}
use Rattle.fb_schema.proofs.finding.field_in.Goals as goal

pub position-requires-clause-indexed : goal.position-requires-clause-indexed
position-requires-clause-indexed c =
    let body = body_seen c.args.body.now in
    rw (keys_seen field_seen (λ f. f.name) (bytes_eq c.args.name.now) c.fields_of-fields.result.now
    (fields_in body) c.fields_of-fields.ensures) (fields_indexed body c.args.names c.requires.indexed)

pub position-requires-clause-distinct : goal.position-requires-clause-distinct
position-requires-clause-distinct c =
    let body = body_seen c.args.body.now in
    rw (keys_seen field_seen (λ f. f.name) (bytes_eq c.args.name.now) c.fields_of-fields.result.now
    (fields_in body) c.fields_of-fields.ensures) (fields_differ body c.requires.distinct)

pub returns-in_err-position : goal.returns-in_err-position
returns-in_err-position c =
    rw c.from_residual.ensures (found_through field_seen (λ f. f.name)
    (bytes_eq c.args.name.now) c.fields_of-fields.result.now
    (fields_in (body_seen c.args.body.now)) c.fields_of-fields.ensures None c.in_err-position.ensures)

pub returns : goal.returns
returns c =
    let fields = c.fields_of-fields.result.now in
    let at = c.in_ok-position.field-0 in
    ap (option_map field_seen) (got fields at c.get.result c.get.ensures.lookup.0 c.get.ensures.lookup.1)
    ∙ (sym (slice_get-map field_seen fields at)
    ∙ (ap (λ (l : List DeclaredField). slice_get l at) c.fields_of-fields.ensures
    ∙ found_through field_seen (λ f. f.name) (bytes_eq c.args.name.now) fields
    (fields_in (body_seen c.args.body.now)) c.fields_of-fields.ensures (Some at) c.in_ok-position.ensures))
