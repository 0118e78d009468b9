use Rattle.std.proofs.Common.{bytes_eq, map, None, Some, ap, sym, refl, ◌∙◌}
use Rattle.std.specs.Option.{option_map}
use Rattle.std.proofs.lemmas.Option.{slice_get-map}
use Rattle.fb_schema.specs.Seen.{field_seen}
use Rattle.fb_schema.proofs.Got.{got}
use Rattle.fb_schema.proofs.LookUps.{found_through}
use Rattle.fb_schema.proofs.few_names.field_among.Goals as goal

pub returns-in_err-position_among : goal.returns-in_err-position_among
returns-in_err-position_among c =
    let fields = c.args.fields.now in
    rw c.from_residual.ensures (found_through field_seen (λ f. f.name) (bytes_eq c.args.name.now) fields
    (map field_seen fields) refl None c.in_err-position_among.ensures)

pub returns : goal.returns
returns c =
    let fields = c.args.fields.now in
    let at = c.in_ok-position_among.field-0 in
    ap (option_map field_seen) (got fields at c.get.result c.get.ensures.lookup.0 c.get.ensures.lookup.1)
    ∙ (sym (slice_get-map field_seen fields at)
    ∙ found_through field_seen (λ f. f.name) (bytes_eq c.args.name.now) fields
    (map field_seen fields) refl (Some at) c.in_ok-position_among.ensures)
