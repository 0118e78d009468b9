use Rattle.std.proofs.Common.{None, Some, ap, sym, ◌∙◌}
use Rattle.std.proofs.lemmas.Int.{to_z-of_z}
use mir.Syntax.{w128}
use Rattle.fb_schema.specs.Schema.{DeclaredBody}
use Rattle.fb_schema.specs.Found.{name_numbered}
use Rattle.fb_schema.specs.Seen.{type_seen}
use Rattle.fb_schema.proofs.Got.{got_of}
use Rattle.fb_schema.proofs.LookUps.{seen_there, no_repeats_there, body_there, no_body}
use Rattle.fb_schema.proofs.schema.Schema.name_of_number.Goals as goal

pub name_in-requires-clause-indexed : goal.name_in-requires-clause-indexed
name_in-requires-clause-indexed c =
    let s = c.self.inside in
    let info = c.in_ok-info.info in
    let there = got_of c.deref.result.now s.types.items c.args.enumeration.0
    (Some info) c.deref.ensures.value c.in_ok-info.ensures.lookup.0 c.in_ok-info.ensures.lookup.1 in
    c.self.invariant.numbers c.args.enumeration.0 (type_seen info.now)
    (seen_there s.types.items c.args.enumeration.0 info.now there)

pub name_in-requires-clause-distinct : goal.name_in-requires-clause-distinct
name_in-requires-clause-distinct c =
    let s = c.self.inside in
    let info = c.in_ok-info.info in
    let there = got_of c.deref.result.now s.types.items c.args.enumeration.0
    (Some info) c.deref.ensures.value c.in_ok-info.ensures.lookup.0 c.in_ok-info.ensures.lookup.1 in
    no_repeats_there s.types.items c.args.enumeration.0 info.now there s.root s.identifier c.self.invariant.declared

pub returns-in_err-info : goal.returns-in_err-info
returns-in_err-info c =
    let s = c.self.inside in
    let none = got_of c.deref.result.now s.types.items c.args.enumeration.0 None c.deref.ensures.value
    c.in_err-info.ensures.lookup.0 c.in_err-info.ensures.lookup.1 in
    rw (c.from_residual.ensures, ← c.self.view_is)
    (ap (λ (b : DeclaredBody). name_numbered b c.args.number) (sym (no_body s.types.items c.args.enumeration.0 none)))

pub returns : goal.returns
returns c =
    let s = c.self.inside in
    let info = c.in_ok-info.info in
    let there = got_of c.deref.result.now s.types.items c.args.enumeration.0
    (Some info) c.deref.ensures.value c.in_ok-info.ensures.lookup.0 c.in_ok-info.ensures.lookup.1 in
    let found = rw (to_z-of_z w128 c.args.number c.ranges.number) at c.name_in.ensures in
    rw (← c.self.view_is)
    (found ∙ ap (λ (b : DeclaredBody). name_numbered b c.args.number)
    (sym (body_there s.types.items c.args.enumeration.0 info.now there)))
