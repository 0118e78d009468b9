use Rattle.std.proofs.Common.{arith}
use Rattle.fb_index.proofs.FreeKeys.{one_is_free}
use Rattle.fb_index.proofs.digest_index.free_key.Goals as goal

pub unreachable-requires : goal.unreachable-requires
unreachable-requires c =
    one_is_free c.args.digest c.args.taken.now.keys c.requires.few
    (λ n low. c.loop-steps.invariant n (omega (arith, low, c.len-steps-end.ensures.len, c.loop-steps-test.false)))
