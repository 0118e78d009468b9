-- Multiples.
-- From the FlatBuffers documentation, "FlatBuffer Internals": sizes and positions are multiples of alignments.
use Rattle.std.specs.Prelude.{ℕ, ◌+◌, ◌*◌, ◌/◌, ◌^◌, ◌≡◌, ◌≤◌}

-- m is the least multiple of a that isn't below n
pub record IsLeastMultiple (a n m : ℕ) : Type 0 where
  pub multiple : (k : ℕ) × (m ≡ k * a)
  pub above : n ≤ m
  pub least : (k : ℕ) → n ≤ k * a → m ≤ k * a

-- the least multiple of 4 that isn't below n, computed
abbrev pub ceil4 : ℕ → ℕ
ceil4 n = 4 * ((n + 3) / 4)

-- n is a power of two, 256 at most
pub record IsAlignment (n : ℕ) : Type 0 where
  pub exponent : ℕ
  pub few : exponent ≤ 8
  pub is : n ≡ 2 ^ exponent
