use Rattle.std.proofs.Common.{◌≡◌, map, None, Some, ap, sym, ◌∙◌}
use Rattle.fb_schema.specs.Schema.{DeclaredBody}
use Rattle.fb_schema.specs.Found.{number_named}
use Rattle.fb_schema.specs.Seen.{type_seen}
use Rattle.fb_schema.proofs.Got.{got_of}
use Rattle.fb_schema.proofs.LookUps.{seen_there, no_repeats_there, body_there, no_body}
use Rattle.fb_schema.proofs.schema.Schema.number_of_name.Goals as goal

pub number_in-requires-clause-indexed : goal.number_in-requires-clause-indexed
number_in-requires-clause-indexed c =
    let s = c.self.inside in
    let info = c.in_ok-info.info in
    let there = got_of c.deref.result.now s.types.items c.args.enumeration.0
    (Some info) c.deref.ensures.value c.in_ok-info.ensures.lookup.0 c.in_ok-info.ensures.lookup.1 in
    c.in_ok-names.ensures.found (map type_seen s.types.items) (type_seen info.now) c.self.invariant.names
    (seen_there s.types.items c.args.enumeration.0 info.now there)

pub number_in-requires-clause-distinct : goal.number_in-requires-clause-distinct
number_in-requires-clause-distinct c =
    let s = c.self.inside in
    let info = c.in_ok-info.info in
    let there = got_of c.deref.result.now s.types.items c.args.enumeration.0
    (Some info) c.deref.ensures.value c.in_ok-info.ensures.lookup.0 c.in_ok-info.ensures.lookup.1 in
    no_repeats_there s.types.items c.args.enumeration.0 info.now there s.root s.identifier c.self.invariant.declared

pub returns-in_err-info : goal.returns-in_err-info
returns-in_err-info c =
    let s = c.self.inside in
    let none = got_of c.deref.result.now s.types.items c.args.enumeration.0 None c.deref.ensures.value
    c.in_err-info.ensures.lookup.0 c.in_err-info.ensures.lookup.1 in
    rw (c.from_residual.ensures, ← c.self.view_is)
    (ap (λ (b : DeclaredBody). number_named b c.args.name.now) (sym (no_body s.types.items c.args.enumeration.0 none)))

pub returns-in_err-names : goal.returns-in_err-names
returns-in_err-names c =
    let s = c.self.inside in
    let info = c.in_ok-info.info in
    let there = got_of c.deref.result.now s.types.items c.args.enumeration.0
    (Some info) c.deref.ensures.value c.in_ok-info.ensures.lookup.0 c.in_ok-info.ensures.lookup.1 in
    let held = seen_there s.types.items c.args.enumeration.0 info.now there in
    let none = c.in_err-names.ensures.absent (map type_seen s.types.items) c.self.invariant.names in
    absurd (let no : None ≡ Some (type_seen info.now) = sym none ∙ held in cc)

pub returns : goal.returns
returns c =
    let s = c.self.inside in
    let info = c.in_ok-info.info in
    let there = got_of c.deref.result.now s.types.items c.args.enumeration.0
    (Some info) c.deref.ensures.value c.in_ok-info.ensures.lookup.0 c.in_ok-info.ensures.lookup.1 in
    rw (← c.self.view_is)
    (c.number_in.ensures ∙ ap (λ (b : DeclaredBody). number_named b c.args.name.now)
    (sym (body_there s.types.items c.args.enumeration.0 info.now there)))
