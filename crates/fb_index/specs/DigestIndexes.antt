-- Digests at places, of which an index keeps a number of 32 bits each.
use Rattle.std.specs.Prelude.{ℕ, ◌≡◌, ◌≤◌, ◌<◌, ◌+◌, ◌-◌, ◌%◌, ◌^◌, true, min, List, length, nat_eq, Some, position}
use Rattle.std.specs.List.{list_any}
use Rattle.indexmap.specs.IndexSet.{spare}
use Rattle.fb_index.specs.declared.digest_index.DigestIndex.TheInside.{Inside}

-- what contracts see of an index: the key of each place, and how many more places it has memory for
pub record Digested : Type 0 where
  pub keys : List ℕ
  pub spare : ℕ

abbrev pub digested_seen : Inside → Digested
digested_seen x = record { keys = x.keys.keys; spare = min (spare x.keys) (2 ^ 32 - 1 - length x.keys.keys) }

-- the 32-bit number that is so many steps after a digest; 0 follows the largest
abbrev pub key_after : ℕ → ℕ → ℕ
key_after digest steps = (digest + steps) % 2 ^ 32

-- A digest is at a place: the key there is the first number from the digest on that no place before it has.
pub record IsAt (keys : List ℕ) (digest place : ℕ) : Type 0 where
  pub steps : ℕ
  pub within : steps ≤ place
  pub is : position (nat_eq (key_after digest steps)) keys ≡ Some place
  pub taken : (n : ℕ) → n < steps → list_any (nat_eq (key_after digest n)) keys ≡ true

-- Each digest stays at its place.
abbrev pub KeepsPlaces : List ℕ → List ℕ → Type 0
KeepsPlaces old new = (digest place : ℕ) → IsAt old digest place → IsAt new digest place
