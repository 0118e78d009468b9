-- Many maps from numbers to numbers in one arena of forks.
use Rattle.std.specs.Prelude.{ℕ, zero, suc, ◌≡◌, ◌<◌, ◌/◌, ◌%◌, ◌==◌, List, Option, None, Some, length, slice_get}
use Rattle.std.specs.Prelude.{unwrap_or, if◌then◌else◌}
use Rattle.fb_resolve.specs.declared.namespaces.maps.Fork.{Fork}
use Rattle.fb_resolve.specs.declared.namespaces.maps.Maps.{Maps}

-- the fork that leads nowhere
abbrev pub empty_fork : Fork
empty_fork = record { zero = 0; one = 0 }

-- the fork at a place
abbrev pub fork_at : List Fork → ℕ → Fork
fork_at forks place = unwrap_or (slice_get forks place) empty_fork

-- a fork's side for a key, by the key's lowest bit
abbrev pub side : Fork → ℕ → ℕ
side fork key = if key % 2 == 0 then fork.zero else fork.one

-- a fork with another side for a key
abbrev pub with_side : Fork → ℕ → ℕ → Fork
with_side fork key other = if key % 2 == 0 then record fork { zero = other } else record fork { one = other }

-- the leaf for a key below a place, `levels` levels down: a value plus one, or 0 for none
abbrev pub leaf_in : List Fork → ℕ → ℕ → ℕ → ℕ
leaf_in forks zero place key = if key == 0 then place else 0
leaf_in forks (suc levels) place key = leaf_in forks levels (side (fork_at forks place) key) (key / 2)

-- a leaf or, if it is none, another
abbrev pub leaf_or : ℕ → ℕ → ℕ
leaf_or zero other = other
leaf_or (suc leaf) other = suc leaf

-- each fork that can be met below a place is there
abbrev pub IsMapIn : List Fork → ℕ → ℕ → Type 0
IsMapIn forks zero place = Unit {0}
IsMapIn forks (suc levels) place = (place < length forks) × IsMapIn forks levels (fork_at forks place).zero
    × IsMapIn forks levels (fork_at forks place).one

-- each fork that was there is still there
abbrev pub KeepsForks : List Fork → List Fork → Type 0
KeepsForks old new = (place : ℕ) (fork : Fork) → slice_get old place ≡ Some fork
    → slice_get new place ≡ Some fork

-- the value that a leaf has
abbrev pub value_of : ℕ → Option ℕ
value_of zero = None
value_of (suc value) = Some value

-- what a map has for a key
abbrev pub value_in : Maps → ℕ → ℕ → Option ℕ
value_in maps map key = value_of (leaf_in maps.forks.items maps.height map key)

-- a number names a map
abbrev pub IsMap : Maps → ℕ → Type 0
IsMap maps map = IsMapIn maps.forks.items maps.height map

-- the first fork leads to itself and to no value
abbrev pub AreMaps : Maps → Type 0
AreMaps maps = slice_get maps.forks.items 0 ≡ Some empty_fork

-- each map that was there is still the same map
abbrev pub KeepsMaps : Maps → Maps → Type 0
KeepsMaps old new = (map : ℕ) → IsMap old map
    → IsMap new map × ((key : ℕ) → value_in new map key ≡ value_in old map key)
