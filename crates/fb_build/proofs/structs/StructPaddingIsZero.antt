-- The bytes of a struct that no field takes, while its fields are laid.
use Rattle.std.proofs.Common.{◌≡◌, ℕ, ◌-◌, ◌<◌, ◌≤◌, ◌⊎◌, inl, inr, ◌++◌}
use Rattle.std.proofs.Common.{replicate, slice_index, ◌∙◌, arith}
use Rattle.std.proofs.lemmas.List.{get_or-append_right, get_or_append_left, get_or-replicate}
use Rattle.fb_value.specs.Num.{Bytes}
use Rattle.fb_build.proofs.tail.PaddingIsZero.{zeros_long}
use Rattle.fb_layout.proofs.sizes.AlignmentsArePowersOfTwo.{lower}

-- a byte behind some zeros, or one of them
pub zeros_read : (n : ℕ) (a : Bytes) (i : ℕ) → (n ≤ i → slice_index a (i - n) ≡ 0)
    → slice_index (replicate n 0 ++ a) i ≡ 0
zeros_read n a i h = by_case (lower n i)
  where
    by_case : (n ≤ i) ⊎ (i < n) → slice_index (replicate n 0 ++ a) i ≡ 0
    by_case (inl le) = get_or-append_right (replicate n 0) a n i 0 (zeros_long n) le ∙ h le
    by_case (inr lt) = get_or_append_left (replicate n 0) a 0 i (let z = zeros_long n in omega (arith, z, lt))
        ∙ get_or-replicate n i 0 0 lt
