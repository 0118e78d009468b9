use Rattle.std.proofs.Common.{◌∙◌}
use Rattle.fb_read.proofs.numbers.SumIsWhatByteorderReads.{num_in_slice}
use Rattle.fb_read.proofs.numbers.u16_at.Goals as goal

pub returns : goal.returns
returns c = c.read_u16.ensures ∙ num_in_slice c.args.bytes.now c.args.at 2
