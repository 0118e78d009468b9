use Rattle.std.proofs.Common.{ap, sym, ◌∙◌}
use Rattle.fb_schema.specs.Schema.{slots_in}
use Rattle.fb_layout.proofs.bodies.BodiesStandAtTheirNumbers.{body_of, body_there}
use Rattle.fb_layout.proofs.bodies.slots_at.Goals as goal

pub returns-in-Some : goal.returns-in-Some
returns-in-Some c =
    c.slots_in.ensures
    ∙ ap slots_in
    (ap body_of (sym c.in-Some.is)
    ∙ body_there c.types.result.now c.args.schema.now c.args.table.0 c.get.result c.types.ensures.types
    c.get.ensures.lookup.0 c.get.ensures.lookup.1)

pub returns-in-None : goal.returns-in-None
returns-in-None c = ap slots_in
    (ap body_of (sym c.in-None.is)
    ∙ body_there c.types.result.now c.args.schema.now c.args.table.0 c.get.result c.types.ensures.types
    c.get.ensures.lookup.0 c.get.ensures.lookup.1)
