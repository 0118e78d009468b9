use mir.Facts.{to_z-of_z}
use Rattle.std.proofs.Common.{sym, ◌∙◌, rules}
use Rattle.std.specs.Prelude.{FitsSigned}
use Rattle.std.specs.Int.{w128}
use Rattle.fb_read.specs.Views.{entry_of}
use Rattle.fb_read.proofs.view.AccessorsReadTheEntry.{number_found, number_none}
use Rattle.fb_read.proofs.view.ViewsAreWithinTheBuffer.{number_sure}
use Rattle.fb_read.proofs.view.View.number.Goals as goal

pub number_at-requires : goal.number_at-requires
number_at-requires c = number_sure c.args.self.layout.now c.args.self.bytes.now c.args.self.table.0 c.args.self.at
    c.args.slot c.stored-stored.result c.args.self.lies c.stored-stored.ensures.stands c.in-Some.base c.in-Some.at
    (sym c.number.ensures ∙ c.in-Some.is)

pub returns-in-Some : goal.returns-in-Some
returns-in-Some c d lies =
    let fits : FitsSigned w128 c.number_at.result = search (rules, c.number_at.type_inv) in
    rw (to_z-of_z {w = w128} {z = c.number_at.result} fits, c.number_at.ensures)
    (number_found c.args.self.layout.now c.args.self.bytes.now c.stored-stored.result c.in-Some.base c.in-Some.at
    (entry_of d c.args.slot) (sym c.number.ensures ∙ c.in-Some.is) (c.stored-stored.ensures.stands d lies))

pub returns-in-None : goal.returns-in-None
returns-in-None c d lies = c.default.ensures ∙ number_none c.args.self.layout.now c.args.self.bytes.now
    c.stored-stored.result (entry_of d c.args.slot) (c.stored-stored.ensures.stands d lies) (sym c.number.ensures
    ∙ c.in-None.is)
