use Rattle.std.proofs.Common.{◌≡◌, ℕ, ◌<◌, false, drop}
use Rattle.fb_syntax.specs.Gaps.{is_close}
use Rattle.fb_syntax.proofs.scan.before_close.Given as goal

abbrev pub invariant-loop-i : goal.invariant-loop-i
invariant-loop-i l = (k : ℕ) → k < l.i → is_close (drop k l.text) ≡ false
