use Rattle.std.proofs.Common.{arith}
use Rattle.fb_build.proofs.tail.WhatIsLaidStaysLaid.{then_grows, grown_long}
use Rattle.fb_build.proofs.taped.DataIsItsPart.{IsDataLaid, data_lies, data_adds}
use Rattle.fb_build.proofs.taped_data.lay_data.Goals as goal

laid : (c : goal.After-lay) → IsDataLaid c.args.align c.fit.result c.args.bytes.now c.args.out.now c.fit.new.self
    c.lay.new.self
laid c = record {
  padded = c.fit.ensures.bytes;
  under = c.fit.ensures.under;
  widened = c.fit.ensures.most;
  multiple = c.fit.ensures.multiple;
  wide = c.fit.ensures.wide;
  laid = c.lay.ensures.bytes;
  free = c.lay.ensures.free;
  most = c.lay.ensures.most;
  short = omega (arith, c.requires.room, c.laid_is_short.ensures);
}

pub returns-clause-lies : goal.returns-clause-lies
returns-clause-lies c L part is = data_lies L part _ _ _ _ _ _ (laid c) is

pub returns-clause-adds : goal.returns-clause-adds
returns-clause-adds c L part places is = data_adds L part _ _ _ _ _ _ (laid c) is places

pub returns-clause-grows : goal.returns-clause-grows
returns-clause-grows c = then_grows _ _ _ c.fit.ensures.grows c.lay.ensures.grows

pub returns-clause-long : goal.returns-clause-long
returns-clause-long c =
    let padded = grown_long _ _ c.fit.ensures.grows in
    let laid = grown_long _ _ c.lay.ensures.grows in
    let zeros = c.fit.ensures.exact in
    omega (arith, padded, laid, c.fit.ensures.free, c.lay.ensures.free, zeros)
