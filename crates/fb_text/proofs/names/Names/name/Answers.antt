use Rattle.std.proofs.Common.{rules, ◌≡◌, Some, ap, ◌∙◌}
use Rattle.fb_schema.specs.Schema.{body_at}
use Rattle.fb_schema.specs.Found.{name_numbered}
use Rattle.fb_schema.proofs.Got.{got}
use Rattle.fb_text.proofs.names.NameAtItsPlace.{named_there}
use Rattle.fb_text.proofs.names.Names.name.Goals as goal

pub returns : goal.returns
returns c =
    let names = c.args.self in
    let body = body_at names.schema.now names.enumeration.0 in
    let value = c.in-Some.value in
    let there = got names.values.now c.args.place (Some value) c.in-Some.ensures.lookup.0 c.in-Some.ensures.lookup.1 in
    let same : value.now.1 ≡ c.args.number = search rules in
    ap Some c.as_str.ensures.value
    ∙ (named_there names.values.now c.args.place value.now body there names.same c.numbers_differ.ensures
    ∙ ap (name_numbered body) same)
