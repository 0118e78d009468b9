-- Vtables that are laid in a tail of a buffer, each with the end-count at which it stands.
-- From the FlatBuffers documentation, "FlatBuffer Internals": Tables. That equal vtables are one is what flatc does
-- too.
use Rattle.std.specs.Prelude.{ℕ, ◌≡◌, ◌<◌, ◌≤◌, ◌++◌, true, List, length, Some, slice_get, slice_index}
use Rattle.fb_value.specs.Num.{Bytes, num, divides}

-- Bytes stand in others, from the end-count e on.
pub record StandsEnd (s : Bytes) (e : ℕ) (xs : Bytes) : Type 0 where
  pub within : e ≤ length s
  pub behind : Bytes
  pub before : Bytes
  pub split : s ≡ before ++ (xs ++ behind)
  pub at : length (xs ++ behind) ≡ e

-- A vtable's first number is its own size.
abbrev pub TellsItsLength : Bytes → Type 0
TellsItsLength vtable = (rest : Bytes) → num (vtable ++ rest) 0 2 ≡ length vtable

-- Each vtable stands at its place.
pub record AreLaid (known : List Bytes) (places : List ℕ) (s : Bytes) : Type 0 where
  pub each : length known ≡ length places
  pub stand : (i : ℕ) (vtable : Bytes) → slice_get known i ≡ Some vtable
      → (0 < slice_index places i) × StandsEnd s (slice_index places i) vtable
      × (divides 2 (slice_index places i) ≡ true) × TellsItsLength vtable
