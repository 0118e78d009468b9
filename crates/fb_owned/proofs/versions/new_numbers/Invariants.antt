use Rattle.std.proofs.Common.{◌≡◌, length}
use Rattle.fb_owned.proofs.versions.NewNumbersAreListedInOrder.{Numbered}
use Rattle.fb_owned.proofs.versions.new_numbers.Given as goal

abbrev pub invariant-loop-i : goal.invariant-loop-i
invariant-loop-i l = record { many : length l.numbers.items ≡ l.i; numbered : Numbered l.old l.new l.numbers.items }
