use Rattle.std.proofs.Common.{◌≡◌, ◌==◌, ◌<◌, ℕ, IfSome, false, length, get_or, take}
use Rattle.std.specs.List.{list_any}
use Rattle.fb_resolve.proofs.ids.TwiceAmongNumbers.{IsMetTwice}
use Rattle.fb_resolve.proofs.ids.wrong_number.Given as goal

abbrev pub invariant-loop-number : goal.invariant-loop-number
invariant-loop-number l = record {
  count : length l.taken.items ≡ length l.numbers;
  marks : (k : ℕ) → k < length l.numbers → get_or l.taken.items k false ≡ list_any (λ n. k == n)
      (take l.number-index l.numbers);
  twice : IfSome l.twice (IsMetTwice (take l.number-index l.numbers));
}
