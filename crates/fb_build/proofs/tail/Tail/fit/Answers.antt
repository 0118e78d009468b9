use Rattle.std.proofs.Common.{◌∙◌, arith}
use Rattle.fb_build.proofs.tail.WhatIsLaidStaysLaid.{right_divides, pads_by}
use Rattle.fb_build.proofs.tail.PaddingIsZero.{padded_bytes}
use Rattle.fb_build.proofs.tail.Tail.fit.Goals as goal
use Rattle.fb_layout.proofs.sizes.AlignmentsArePowersOfTwo.{alignment_positive}

pub returns-clause-multiple : goal.returns-clause-multiple
returns-clause-multiple c = padded_bytes c.args.align c.args.more c.count.result c.args.self.now.bytes
    c.widen.new.self.bytes (alignment_positive c.args.align c.requires.power) c.count.ensures.exact
    (rw (← c.zeros_to-zeros.ensures.exact) (c.widen.ensures.bytes ∙ c.skip.ensures.bytes))

pub returns-clause-wide : goal.returns-clause-wide
returns-clause-wide c = rw c.widen.ensures.most
    (right_divides c.skip.new.self.most c.args.align c.widen.ensures.power c.requires.power)

pub returns-clause-grows : goal.returns-clause-grows
returns-clause-grows c = pads_by c.args.self.now c.widen.new.self c.skip.new.self _ c.args.align (c.widen.ensures.bytes
    ∙ c.skip.ensures.bytes) (omega (arith, c.widen.ensures.free, c.skip.ensures.free)) c.skip.ensures.most
    c.widen.ensures.power c.requires.power c.widen.ensures.most
