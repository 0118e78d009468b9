use Rattle.std.proofs.Common.{IsTrue, ap, sym, subst}
use Rattle.fb_schema.specs.Schema.{body_at, is_struct}
use Rattle.fb_layout.specs.Laid.{parts_of, struct_kind}
use Rattle.fb_value.specs.Datum.{a_struct}
use Rattle.fb_value.specs.Fits.{PartsFit}
use Rattle.fb_value.specs.View.{parts_view}
use Rattle.fb_tape.specs.Tapes.{Taped}
use Rattle.fb_tape.proofs.tape.DataIsLaid.{element_added}
use Rattle.fb_tape.proofs.tape.Tape.push_struct.Goals as goal

pub returns-clause-adds : goal.returns-clause-adds
returns-clause-adds c =
    element_added c.push_struct.result c.args.self.now c.self.inside.layout.now (λ L. struct_kind c.args.structure.0)
    (a_struct (parts_view c.args.parts.now)) c.self.inside.finished c.self.inside.bytes.items
    c.push_struct.new.bytes.items c.self.invariant.within (ap (λ (t : Taped). t.layout) c.self.view_is)
    (ap (λ (t : Taped). t.unfinished) c.self.view_is) c.push_struct.ensures.adds

pub returns-then-leaves_vector_out-clause-waits : goal.returns-then-leaves_vector_out-clause-waits
returns-then-leaves_vector_out-clause-waits c ps waits = waits

pub returns-clause-layout : goal.returns-clause-layout
returns-clause-layout c = ap (λ (t : Taped). t.layout) c.self.view_is

pub push_struct-requires-clause-there : goal.push_struct-requires-clause-there
push_struct-requires-clause-there c =
    subst (λ (t : Taped). IsTrue (is_struct (body_at t.layout.schema c.args.structure.0))) (sym c.self.view_is)
    c.requires.inline

pub push_struct-requires-clause-fits : goal.push_struct-requires-clause-fits
push_struct-requires-clause-fits c =
    subst (λ (t : Taped). PartsFit t.layout (parts_of t.layout c.args.structure.0) (parts_view c.args.parts.now))
    (sym c.self.view_is) c.requires.fits
