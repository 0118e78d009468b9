use Rattle.std.proofs.Common.{sym, ap, Some, ◌∙◌}
use Rattle.fb_read.specs.Views.{entry_of}
use Rattle.fb_read.proofs.view.AccessorsReadTheEntry.{text_found, text_none}
use Rattle.fb_read.proofs.view.ViewsAreWithinTheBuffer.{text_sure}
use Rattle.fb_read.proofs.view.View.text.Goals as goal

pub text_behind-requires : goal.text_behind-requires
text_behind-requires c = text_sure c.args.self.layout.now c.args.self.bytes.now c.args.self.table.0 c.args.self.at
    c.args.slot c.stored.result c.args.self.lies c.stored.ensures.stands c.in_ok-at.at (sym c.in_ok-at.ensures)

pub returns : goal.returns
returns c d lies = ap Some c.text_behind.ensures
    ∙ text_found c.args.self.layout.now c.args.self.bytes.now c.stored.result c.in_ok-at.at (entry_of d c.args.slot)
    (sym c.in_ok-at.ensures) (c.stored.ensures.stands d lies)

pub returns-in_err-at : goal.returns-in_err-at
returns-in_err-at c d lies =
    rw c.from_residual.ensures (sym (text_none c.args.self.layout.now c.args.self.bytes.now c.stored.result (entry_of d
    c.args.slot)
    (c.stored.ensures.stands d lies) (sym c.in_err-at.ensures)))
