use Rattle.std.proofs.Common.{arith}
use Rattle.std.specs.Int.{trailing_zeros, w64}
use Rattle.std.proofs.lemmas.Nat.{one_shl}
use Rattle.fb_text.proofs.flags.LowestBit.{lowest_of, bit_within}
use Rattle.fb_text.proofs.flags.higher_bits.Goals as goal

pub overflow_sub-result : goal.overflow_sub-result
overflow_sub-result c =
    let bits = c.args.bits in
    let (low, is) = lowest_of bits c.requires c.ranges.bits.fits in
    omega (arith, one_shl (trailing_zeros w64 bits) 64 low, bit_within bits (trailing_zeros w64 bits) is)
