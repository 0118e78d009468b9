use Rattle.std.proofs.Common.{◌≡◌, ℕ, List, String, Global, ℤ, map, bytes_eq, slice_get, Option, None}
use Rattle.std.proofs.Common.{Some, string_bytes, ap, sym, ◌∙◌, rules}
use mir.Val.{SFits}
use mir.Syntax.{w128}
use Rattle.std.proofs.lemmas.Int.{to_z-of_z}
use Rattle.std.specs.Option.{option_map}
use Rattle.std.proofs.lemmas.Option.{slice_get-map}
use Rattle.fb_schema.specs.Schema.{Name, values_in}
use Rattle.fb_schema.specs.Seen.{body_seen}
use Rattle.fb_schema.proofs.Got.{got}
use Rattle.fb_schema.proofs.LookUps.{keys_seen, found_through, values_indexed, values_differ}
use Rattle.fb_schema.proofs.finding.number_in.Goals as goal

abbrev seen : String Global × ℤ → Name × ℤ
seen v = (string_bytes v.0, v.1)

-- the number of the value at a place
number_at : (values : List (String Global × ℤ)) (at : ℕ) (value : String Global × ℤ) (declared : List (Name × ℤ))
    → Some value ≡ slice_get values at
    → map seen values ≡ declared → Some value.1 ≡ option_map (λ v. v.1) (slice_get declared at)
number_at values at value declared there same =
    ap (λ (o : Option (String Global × ℤ)). option_map (λ v. v.1) (option_map seen o)) there
    ∙ ap (option_map (λ v. v.1)) (sym (slice_get-map seen values at)
    ∙ ap (λ (l : List (Name × ℤ)). slice_get l at) same)

pub position-requires-clause-indexed : goal.position-requires-clause-indexed
position-requires-clause-indexed c =
    let body = body_seen c.args.body.now in
    rw (keys_seen seen (λ v. v.0) (bytes_eq c.args.name.now) c.values_of-values.result.now
    (values_in body) c.values_of-values.ensures) (values_indexed body c.args.names c.requires.indexed)

pub position-requires-clause-distinct : goal.position-requires-clause-distinct
position-requires-clause-distinct c =
    let body = body_seen c.args.body.now in
    rw (keys_seen seen (λ v. v.0) (bytes_eq c.args.name.now) c.values_of-values.result.now
    (values_in body) c.values_of-values.ensures) (values_differ body c.requires.distinct)

pub returns-in_err-position : goal.returns-in_err-position
returns-in_err-position c =
    rw c.from_residual.ensures (ap (option_map (λ v. v.1))
    (found_through seen (λ v. v.0) (bytes_eq c.args.name.now) c.values_of-values.result.now
    (values_in (body_seen c.args.body.now)) c.values_of-values.ensures None c.in_err-position.ensures))

pub returns : goal.returns
returns c =
    let values = c.values_of-values.result.now in
    let at = c.in_ok-position.field-0 in
    let there = got values at (Some c.in_ok-value.value) c.in_ok-value.ensures.lookup.0 c.in_ok-value.ensures.lookup.1
    in
    let value = c.in_ok-value.value.now in
    let fits : SFits w128 value.1 = search rules in
    ap Some (to_z-of_z w128 value.1 fits)
    ∙ (number_at values at value _ there c.values_of-values.ensures
    ∙ ap (option_map (λ v. v.1)) (found_through seen (λ v. v.0) (bytes_eq c.args.name.now) values
    (values_in (body_seen c.args.body.now)) c.values_of-values.ensures (Some at) c.in_ok-position.ensures))
