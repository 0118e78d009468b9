use Rattle.std.proofs.Common.{[], ap, ◌∙◌}
use Rattle.std.specs.Option.{option_map_or}
use Rattle.fb_schema.specs.Schema.{values_in}
use Rattle.fb_schema.specs.Seen.{body_seen}
use Rattle.fb_text.proofs.names.TypeAtItsNumber.{body_there, values_asked}
use Rattle.fb_text.proofs.names.values_of.Goals as goal

pub returns-in_default : goal.returns-in_default
returns-in_default c =
    let there = body_there c.types.result.now c.args.schema.now c.args.enumeration.0 c.get.result c.types.ensures.types
    c.get.ensures.lookup.0 c.get.ensures.lookup.1 in
    ap values_in (rw c.in_default.is at there)

pub returns-in-Some-as_enum : goal.returns-in-Some-as_enum
returns-in-Some-as_enum c =
    let there = body_there c.types.result.now c.args.schema.now c.args.enumeration.0 c.get.result c.types.ensures.types
    c.get.ensures.lookup.0 c.get.ensures.lookup.1 in
    let asked = rw c.in-Some-as_enum.is at c.as_enum.ensures in
    ap (λ o. option_map_or (λ e. e.2) o []) asked
    ∙ (values_asked (body_seen c.in-Some.info.now.body) ∙ ap values_in (rw c.in-Some.is at there))

pub returns-in-None : goal.returns-in-None
returns-in-None c =
    let there = body_there c.types.result.now c.args.schema.now c.args.enumeration.0 c.get.result c.types.ensures.types
    c.get.ensures.lookup.0 c.get.ensures.lookup.1 in
    let asked = rw c.in-None.is at c.as_enum.ensures in
    ap (λ o. option_map_or (λ e. e.2) o []) asked
    ∙ (values_asked (body_seen c.in-Some.info.now.body) ∙ ap values_in (rw c.in-Some.is at there))
