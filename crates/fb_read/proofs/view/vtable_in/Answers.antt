use Rattle.fb_read.proofs.view.ViewHasAVtable.{view_within, view_vtable}
use Rattle.fb_read.proofs.view.vtable_in.Goals as goal

pub vtable_of-requires-clause-within : goal.vtable_of-requires-clause-within
vtable_of-requires-clause-within c = view_within c.args.layout.now c.args.bytes.now c.args.table.0 c.args.at
    c.requires.lies

pub returns-in-None : goal.returns-in-None
returns-in-None c = absurd (c.in-None.ensures.valid
    (view_vtable c.args.layout.now c.args.bytes.now c.args.table.0 c.args.at c.requires.lies))
