use Rattle.std.proofs.Common.{arith}
use Rattle.fb_build.proofs.tail.WhatIsLaidStaysLaid.{then_grows, grown_long}
use Rattle.fb_build.proofs.taped.ClosedTableIsWhole.{IsClosing, table_closed}
use Rattle.fb_build.proofs.taped_vtables.close_table.Goals as goal
use Rattle.fb_layout.proofs.sizes.AlignmentsArePowersOfTwo.{four_aligned}

pub fit-requires-clause-power : goal.fit-requires-clause-power
fit-requires-clause-power c = four_aligned

closing : (c : goal.After-lay_vtable) → IsClosing c.args.number c.fit.result c.lay_vtable.result c.args.vtable.now
    c.args.places.now.items c.lay_vtable.new.places.items c.args.out.now c.fit.new.self c.lay_vtable.new.out
closing c = record {
  padded = c.fit.ensures.bytes;
  pad_free = c.fit.ensures.free;
  under = c.fit.ensures.under;
  multiple = c.fit.ensures.multiple;
  pad_most = c.fit.ensures.most;
  wide = c.fit.ensures.wide;
  pad_grows = c.fit.ensures.grows;
  place_is = c.lay_vtable.ensures.place;
  within = c.lay_vtable.ensures.inside;
  most = c.lay_vtable.ensures.most;
  grows = c.lay_vtable.ensures.grows;
  short = (let padded = grown_long _ _ c.fit.ensures.grows in let laid = grown_long _ _ c.lay_vtable.ensures.grows in
      omega (arith, padded, laid, c.laid_is_short.ensures));
  laid = c.lay_vtable.ensures.laid;
}

pub returns-clause-closed : goal.returns-clause-closed
returns-clause-closed c L vtables t entries start targets w =
    table_closed L vtables t entries start targets _ _ _ _ _ _ _ _ _ (closing c) w

pub returns-clause-grows : goal.returns-clause-grows
returns-clause-grows c = then_grows _ _ _ c.fit.ensures.grows c.lay_vtable.ensures.grows
