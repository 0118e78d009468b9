use Rattle.fb_build.proofs.tail.WhatIsLaidStaysLaid.{then_grows}
use Rattle.fb_build.proofs.taped_vtables.lay_new.Goals as goal

pub returns-clause-grows : goal.returns-clause-grows
returns-clause-grows c = then_grows _ _ _ c.lay_u32.ensures.grows c.lay.ensures.grows
