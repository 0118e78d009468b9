use Rattle.std.proofs.Common.{◌≡◌, Some, None, option_map, slice_get, string_bytes, sym, ap, ◌∙◌}
use Rattle.std.proofs.lemmas.Option.{slice_get-map}
use Rattle.fb_schema.specs.Seen.{type_seen}
use Rattle.fb_schema.proofs.Got.{got}
use Rattle.fb_value.specs.Fits.{kind_of_type}
use Rattle.fb_owned.proofs.fit.kind_of.Goals as goal

pub returns : goal.returns
returns c =
    let found : slice_get c.types.result.now c.args.type_id.0 ≡ Some c.in_ok-info.info.now =
    sym (got c.types.result.now c.args.type_id.0 (Some c.in_ok-info.info) c.in_ok-info.ensures.lookup.0
    c.in_ok-info.ensures.lookup.1) in
    let at : slice_get c.args.schema.now.types c.args.type_id.0 ≡ Some (type_seen c.in_ok-info.info.now) =
    ap (λ ts. slice_get ts c.args.type_id.0) (sym c.types.ensures.types) ∙ slice_get-map type_seen c.types.result.now
    c.args.type_id.0 ∙ ap (option_map type_seen) found in
    sym (ap (kind_of_type c.args.type_id.0) at ∙ c.kind_of_body.ensures c.args.schema.now
    (string_bytes c.in_ok-info.info.now.name))

pub returns-in_err-info : goal.returns-in_err-info
returns-in_err-info c =
    let found : slice_get c.types.result.now c.args.type_id.0 ≡ None =
    sym (got c.types.result.now c.args.type_id.0 None c.in_err-info.ensures.lookup.0 c.in_err-info.ensures.lookup.1) in
    let at : slice_get c.args.schema.now.types c.args.type_id.0 ≡ None =
    ap (λ ts. slice_get ts c.args.type_id.0) (sym c.types.ensures.types) ∙ slice_get-map type_seen c.types.result.now
    c.args.type_id.0 ∙ ap (option_map type_seen) found in
    rw c.from_residual.ensures (sym (ap (kind_of_type c.args.type_id.0) at))
