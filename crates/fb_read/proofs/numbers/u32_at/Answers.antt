use Rattle.std.proofs.Common.{◌∙◌}
use Rattle.fb_read.proofs.numbers.SumIsWhatByteorderReads.{num_in_slice}
use Rattle.fb_read.proofs.numbers.u32_at.Goals as goal

pub returns : goal.returns
returns c = c.read_u32.ensures ∙ num_in_slice c.args.bytes.now c.args.at 4
