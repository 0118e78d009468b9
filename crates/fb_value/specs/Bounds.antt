-- What `Limits` are for contracts: the most tables in one another, and the most cells. And how long a buffer may be.
use Rattle.std.specs.Prelude.{ℕ}

pub record Bounds : Type 0 where
  pub depth : ℕ
  pub cells : ℕ

-- the limits of calls that ask for no others
abbrev pub usual_limits : Bounds
usual_limits = record { depth = 64; cells = 100000000 }

-- the maximum length of a buffer in bytes: the farthest that a signed offset of 32 bits reaches
abbrev pub most_bytes : ℕ
most_bytes = 2147483647
