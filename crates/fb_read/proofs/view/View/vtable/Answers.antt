use Rattle.std.proofs.Common.{arith}
use Rattle.fb_read.proofs.view.ViewHasAVtable.{view_within}
use Rattle.fb_read.proofs.view.View.vtable.Goals as goal

pub returns-clause-low : goal.returns-clause-low
returns-clause-low c = let within = view_within c.args.self.layout.now c.args.self.bytes.now c.args.self.table.0
    c.args.self.at c.args.self.lies in omega (arith, within, c.args.self.short)
