use Rattle.std.proofs.Common.{List, None, Some, slice_get, ap, sym, ◌∙◌}
use Rattle.fb_schema.specs.Schema.{DeclaredType, body_in}
use Rattle.fb_schema.proofs.Got.{got}
use Rattle.fb_schema.proofs.LookUps.{body_there, no_body}
use Rattle.fb_schema.proofs.insides.body_of.Goals as goal

pub returns-in-Some : goal.returns-in-Some
returns-in-Some c =
    let types = c.types.result.now in
    let there = got types c.args.number.0 (Some c.in-Some.declared) c.in-Some.ensures.lookup.0
    c.in-Some.ensures.lookup.1 in
    sym (body_there types c.args.number.0 c.in-Some.declared.now there)
    ∙ ap (λ (ts : List DeclaredType). body_in (slice_get ts c.args.number.0)) c.types.ensures.types

pub returns-in-None : goal.returns-in-None
returns-in-None c =
    let types = c.types.result.now in
    let none = got types c.args.number.0 None c.in-None.ensures.lookup.0 c.in-None.ensures.lookup.1 in
    ap (λ (ts : List DeclaredType). body_in (slice_get ts c.args.number.0)) (sym c.types.ensures.types)
    ∙ no_body types c.args.number.0 none
