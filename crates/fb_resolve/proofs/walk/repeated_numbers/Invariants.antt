use Rattle.std.proofs.Common.{◌≡◌, ◌==◌, ◌<◌, ◌++◌, ℕ, false, length, get_or, take, drop, ◌+◌, ◌≤◌, vec_len}
use Rattle.std.proofs.Common.{vec_capacity}
use Rattle.std.specs.List.{list_any}
use Rattle.fb_resolve.specs.RepeatedNames.{again_behind, repeated_numbers}
use Rattle.fb_resolve.proofs.walk.repeated_numbers.Given as goal

abbrev pub invariant-loop-number : goal.invariant-loop-number
invariant-loop-number l = let i = l.number-index in record {
  room : vec_len l.repeats + length l.numbers ≤ i + vec_capacity l.repeats;
  count : length l.seen.items ≡ l.bound;
  marks : (k : ℕ) → k < l.bound → get_or l.seen.items k false ≡ list_any (λ n. k == n) (take i l.numbers);
  told : l.repeats.items ++ again_behind (λ n m. n == m) (λ n. n) (take i l.numbers)
      (drop i l.numbers) ≡ repeated_numbers l.numbers;
}
