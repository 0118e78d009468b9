-- A number that is answered where it is in range.
use Rattle.std.specs.Prelude.{ℕ, ◌<◌, ◌≤◌, ◌-◌, ◌^◌, min, Option}
use Rattle.std.specs.Option.{SomeIff}

-- n, exactly where it isn't over the greatest
abbrev pub SomeUpTo : ℕ → Option ℕ → ℕ → Type 0
SomeUpTo most answer n = SomeIff answer (n ≤ most) n

-- n, exactly where it is below a bound
abbrev pub SomeBelow : ℕ → Option ℕ → ℕ → Type 0
SomeBelow bound answer n = SomeIff answer (n < bound) n

-- n, or the greatest `usize` where n is over it
abbrev pub at_most_usize : ℕ → ℕ
at_most_usize n = min n (2 ^ 64 - 1)
