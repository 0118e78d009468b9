use Rattle.std.proofs.Common.{◌≡◌, drop, map}
use Rattle.std.specs.Int.Digits.{number_from_digits_after}
use Rattle.fb_syntax.specs.Integers.{digit_value, digits_value}
use Rattle.fb_syntax.proofs.integers.digits_value.Given as goal

abbrev pub invariant-loop-byte : goal.invariant-loop-byte
invariant-loop-byte l = number_from_digits_after l.base l.high
    (map digit_value (drop l.byte-index l.digits)) ≡ digits_value l.base l.digits
