use Rattle.std.proofs.Common.{None, Some, Option, ap, sym, ◌∙◌}
use Rattle.std.specs.Option.{option_map}
use Rattle.fb_schema.specs.Schema.{DeclaredType}
use Rattle.fb_schema.proofs.Got.{got_of}
use Rattle.fb_schema.proofs.LookUps.{none_seen, seen_there}
use Rattle.fb_schema.proofs.schema.Schema.name_at.Goals as goal

pub returns-in_err-info : goal.returns-in_err-info
returns-in_err-info c =
    let s = c.self.inside in
    let none = got_of c.deref.result.now s.types.items c.args.number.0 None c.deref.ensures.value
    c.in_err-info.ensures.lookup.0 c.in_err-info.ensures.lookup.1 in
    rw (c.from_residual.ensures, ← c.self.view_is)
    (ap (λ (o : Option DeclaredType). option_map (λ t. t.name) o) (sym (none_seen s.types.items c.args.number.0 none)))

pub returns : goal.returns
returns c =
    let s = c.self.inside in
    let info = c.in_ok-info.info in
    let there = got_of c.deref.result.now s.types.items c.args.number.0
    (Some info) c.deref.ensures.value c.in_ok-info.ensures.lookup.0 c.in_ok-info.ensures.lookup.1 in
    rw (← c.self.view_is)
    (ap Some c.as_str.ensures.value ∙ ap (λ (o : Option DeclaredType). option_map (λ t. t.name) o)
    (sym (seen_there s.types.items c.args.number.0 info.now there)))
