-- A well-made layout has no alignment of 0 and no size over 16 bits.
use Rattle.std.proofs.Common.{◌<◌, ◌≤◌, ◌^◌, arith}
use Rattle.fb_layout.specs.Laid.{LaidSchema, StoredKind, size_of, align_of}
use Rattle.fb_layout.specs.WellMade.{IsWellMade}
use Rattle.fb_layout.proofs.sizes.AlignmentsArePowersOfTwo.{positive_shown, sizes_shown}

pub aligned_known : (L : LaidSchema) → IsWellMade L → (kind : StoredKind) → 1 ≤ align_of L kind
aligned_known L made kind = let positive = positive_shown L kind made in omega (arith, positive)

pub small_known : (L : LaidSchema) → IsWellMade L → (kind : StoredKind) → size_of L kind < 2 ^ 16
small_known L made kind = let small = sizes_shown L kind made in omega (arith, small)

pub ruleset layout_sizes = (aligned_known, small_known)
