use Rattle.std.proofs.Common.{add-one, sym, ◌∙◌}
use Rattle.fb_syntax.proofs.DigitSums.{one_digit}
use Rattle.fb_syntax.proofs.integers.digits_value.Goals as goal

pub loop-byte-preserved : goal.loop-byte-preserved
loop-byte-preserved c =
    rw (add-one, c.in_ok-high.ensures.1, c.in_ok-checked_mul.ensures.1, c.digit_value.ensures)
    (sym (one_digit _ _ _ _ c.loop-byte-test.true) ∙ c.loop-byte.invariant)
