use Rattle.std.proofs.Common.{◌≡◌, ℕ, List, String, Global, ℤ, map, slice_get, Option, None}
use Rattle.std.proofs.Common.{Some, string_bytes, ap, sym, ◌∙◌}
use Rattle.std.specs.Option.{option_map}
use Rattle.std.specs.Ordering.{int_eq}
use Rattle.std.proofs.lemmas.Int.{to_z-of_z}
use Rattle.std.proofs.lemmas.Option.{slice_get-map}
use mir.Syntax.{w128}
use Rattle.fb_schema.specs.Schema.{Name, values_in}
use Rattle.fb_schema.specs.Seen.{body_seen}
use Rattle.fb_schema.proofs.Got.{got}
use Rattle.fb_schema.proofs.LookUps.{keys_seen, found_through}
use Rattle.fb_schema.proofs.finding.name_in.Goals as goal

abbrev seen : String Global × ℤ → Name × ℤ
seen v = (string_bytes v.0, v.1)

-- the name of the value at a place
name_at : (values : List (String Global × ℤ)) (at : ℕ) (value : String Global × ℤ) (declared : List (Name × ℤ))
    → Some value ≡ slice_get values at
    → map seen values ≡ declared → Some (string_bytes value.0) ≡ option_map (λ v. v.0) (slice_get declared at)
name_at values at value declared there same =
    ap (λ (o : Option (String Global × ℤ)). option_map (λ v. v.0) (option_map seen o)) there
    ∙ ap (option_map (λ v. v.0)) (sym (slice_get-map seen values at)
    ∙ ap (λ (l : List (Name × ℤ)). slice_get l at) same)

pub position-requires-clause-indexed : goal.position-requires-clause-indexed
position-requires-clause-indexed c =
    rw (keys_seen seen (λ v. v.1) (int_eq c.args.number) c.values_of-values.result.now
    (values_in (body_seen c.args.body.now)) c.values_of-values.ensures) c.requires.indexed

pub position-requires-clause-distinct : goal.position-requires-clause-distinct
position-requires-clause-distinct c =
    rw (keys_seen seen (λ v. v.1) (int_eq c.args.number) c.values_of-values.result.now
    (values_in (body_seen c.args.body.now)) c.values_of-values.ensures) c.requires.distinct.numbers

pub returns-in_err-position : goal.returns-in_err-position
returns-in_err-position c =
    let none : Option ℕ = None in
    let numbers : List ℤ = map (λ (v : String Global × ℤ). v.1) c.values_of-values.result.now in
    let place = rw (to_z-of_z w128 c.args.number c.ranges.number) at c.in_err-position.ensures in
    rw c.from_residual.ensures (ap (option_map (λ v. v.0))
    (found_through seen (λ v. v.1) (int_eq c.args.number) c.values_of-values.result.now
    (values_in (body_seen c.args.body.now)) c.values_of-values.ensures None place))

pub returns : goal.returns
returns c =
    let values = c.values_of-values.result.now in
    let numbers : List ℤ = map (λ (v : String Global × ℤ). v.1) values in
    let at = c.in_ok-position.field-0 in
    let place = rw (to_z-of_z w128 c.args.number c.ranges.number) at c.in_ok-position.ensures in
    let there = got values at (Some c.in_ok-value.value) c.in_ok-value.ensures.lookup.0 c.in_ok-value.ensures.lookup.1
    in
    ap Some c.as_str.ensures.value
    ∙ (name_at values at c.in_ok-value.value.now _ there c.values_of-values.ensures
    ∙ ap (option_map (λ v. v.0)) (found_through seen (λ v. v.1) (int_eq c.args.number) values
    (values_in (body_seen c.args.body.now)) c.values_of-values.ensures (Some at) place))
