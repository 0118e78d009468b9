use Rattle.std.proofs.Common.{◌∙◌}
use Rattle.fb_read.specs.Views.{entry_of}
use Rattle.fb_read.proofs.view.AccessorsReadTheEntry.{unknown_found}
use Rattle.fb_read.proofs.view.View.other.Goals as goal

pub returns : goal.returns
returns c d lies = c.unknown.ensures ∙ unknown_found c.args.self.layout.now c.args.self.bytes.now c.stored.result
    (entry_of d c.args.slot) (c.stored.ensures.stands d lies)
