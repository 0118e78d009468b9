-- Maps as the arena of their forks grows.
use Rattle.std.proofs.Common.{ℕ, zero, suc, ◌≡◌, ◌<◌, ◌/◌, ◌%◌, ◌==◌, ◌∙◌, List, Some, length, slice_get, if◌then◌else◌}
use Rattle.std.proofs.Common.{true, false, refl, sym, ap}
use Rattle.std.proofs.lemmas.Option.{unwrap_or-slice_get, slice_get-get_or, slice_get_within}
use Rattle.fb_resolve.specs.declared.namespaces.maps.Fork.{Fork}
use Rattle.fb_resolve.specs.Maps.{empty_fork, fork_at, side, leaf_in, value_of, IsMapIn, KeepsForks}

-- a fork that is there
pub fork_at-there : (forks : List Fork) (place : ℕ) → place < length forks
    → slice_get forks place ≡ Some (fork_at forks place)
fork_at-there forks place h =
    slice_get-get_or forks place empty_fork h ∙ ap Some (sym (unwrap_or-slice_get forks place empty_fork))

-- a fork's side leads to a map as its two sides do
pub side-map : (forks : List Fork) (levels : ℕ) (fork : Fork) (key : ℕ) → IsMapIn forks levels fork.zero
    → IsMapIn forks levels fork.one → IsMapIn forks levels (side fork key)
side-map forks levels fork key zeros ones =
    elim (key % 2 == 0) as (λ b. IsMapIn forks levels (if b then fork.zero else fork.one))
    [ true ↦ zeros | false ↦ ones ]

pub kept-map : (old new : List Fork) → KeepsForks old new → (levels place : ℕ) → IsMapIn old levels place
    → IsMapIn new levels place
kept-map old new kept zero place map = tt
kept-map old new kept (suc levels) place map =
    let fork = fork_at old place in
    let there = kept place fork (fork_at-there old place map.0) in
    rw there (
      slice_get_within new place fork there,
      kept-map old new kept levels fork.zero map.1,
      kept-map old new kept levels fork.one map.2,
    )

pub kept-leaf : (old new : List Fork) → KeepsForks old new → (levels place key : ℕ) → IsMapIn old levels place
    → leaf_in new levels place key ≡ leaf_in old levels place key
kept-leaf old new kept zero place key map = refl
kept-leaf old new kept (suc levels) place key map =
    let fork = fork_at old place in
    rw (kept place fork (fork_at-there old place map.0))
    (kept-leaf old new kept levels (side fork key) (key / 2) (side-map old levels fork key map.1 map.2))

-- a map that was there is still the same map
pub kept_values : (old new : List Fork) → KeepsForks old new → (levels place : ℕ) → IsMapIn old levels place
    → IsMapIn new levels place
    × ((key : ℕ) → value_of (leaf_in new levels place key) ≡ value_of (leaf_in old levels place key))
kept_values old new kept levels place map =
    (kept-map old new kept levels place map, λ key. ap value_of (kept-leaf old new kept levels place key map))

-- the empty map has nothing, and is a map, however many the levels
pub empty-map : (forks : List Fork) → slice_get forks 0 ≡ Some empty_fork → (levels : ℕ) → IsMapIn forks levels 0
empty-map forks empty zero = tt
empty-map forks empty (suc levels) =
    let below = empty-map forks empty levels in
    rw empty (slice_get_within forks 0 empty_fork empty, below, below)

empty-side : (key : ℕ) → side empty_fork key ≡ 0
empty-side key =
    elim (key % 2 == 0) as (λ b. let none : ℕ = 0 in (if b then none else none) ≡ none) [ true ↦ refl | false ↦ refl ]

pub empty-leaf : (forks : List Fork) → slice_get forks 0 ≡ Some empty_fork → (levels key : ℕ)
    → leaf_in forks levels 0 key ≡ 0
empty-leaf forks empty zero key =
    elim (key == 0) as (λ b. let none : ℕ = 0 in (if b then none else none) ≡ none) [ true ↦ refl | false ↦ refl ]
empty-leaf forks empty (suc levels) key =
    rw empty (ap (λ p. leaf_in forks levels p (key / 2)) (empty-side key) ∙ empty-leaf forks empty levels (key / 2))
