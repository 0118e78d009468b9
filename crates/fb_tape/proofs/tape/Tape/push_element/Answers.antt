use Rattle.std.proofs.Common.{ap, sym, subst}
use Rattle.fb_layout.specs.Seen.{kind_seen}
use Rattle.fb_layout.specs.Laid.{one_of}
use Rattle.fb_value.specs.Fits.{Fits}
use Rattle.fb_value.specs.View.{view}
use Rattle.fb_tape.specs.InlineBytes.{IsInline}
use Rattle.fb_tape.specs.Tapes.{Taped}
use Rattle.fb_tape.proofs.tape.DataIsLaid.{element_added}
use Rattle.fb_tape.proofs.tape.Tape.push_element.Goals as goal

pub returns-clause-adds : goal.returns-clause-adds
returns-clause-adds c =
    element_added c.push_inline.result c.args.self.now c.self.inside.layout.now (λ L. kind_seen L c.args.kind)
    (view c.args.value.now) c.self.inside.finished c.self.inside.bytes.items c.push_inline.new.bytes.items
    c.self.invariant.within (ap (λ (t : Taped). t.layout) c.self.view_is)
    (ap (λ (t : Taped). t.unfinished) c.self.view_is) c.push_inline.ensures.adds

pub returns-then-leaves_vector_out-clause-waits : goal.returns-then-leaves_vector_out-clause-waits
returns-then-leaves_vector_out-clause-waits c ps waits = waits

pub push_inline-requires-clause-inline : goal.push_inline-requires-clause-inline
push_inline-requires-clause-inline c =
    subst (λ (t : Taped). IsInline t.layout (kind_seen t.layout c.args.kind)) (sym c.self.view_is) c.requires.inline

pub push_inline-requires-clause-fits : goal.push_inline-requires-clause-fits
push_inline-requires-clause-fits c =
    subst (λ (t : Taped). Fits t.layout (one_of (kind_seen t.layout c.args.kind)) (view c.args.value.now))
    (sym c.self.view_is) c.requires.fits

pub returns-clause-layout : goal.returns-clause-layout
returns-clause-layout c = ap (λ (t : Taped). t.layout) c.self.view_is
