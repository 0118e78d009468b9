-- Numbers among which each place is.
use Rattle.std.proofs.Common.{◌≡◌, ◌==◌, ℕ, zero, suc, ◌<◌, ◌≤◌, ◌+◌, ◌-◌, true, List, length, get_or, sym, ap, ◌∙◌}
use Rattle.std.proofs.Common.{arith, zero-add}
use Rattle.std.proofs.lemmas.Bool.Decides.{Decides-eqb}
use Rattle.std.proofs.lemmas.List.{get_or_default}
use Rattle.std.proofs.lemmas.List.FromFn.{get_or-range_with_len, length-range_with_len}
use Rattle.std.proofs.lemmas.List.Sorted.{Contains-permutation, length_permutation}
use Rattle.std.proofs.lemmas.List.Sums.{AllPass-from_list_all}
use Rattle.std.proofs.lemmas.Map.Made.{is_member-Decides}
use Rattle.std.specs.List.{list_any, range_with_len}
use Rattle.std.specs.List.Sorted.{IsPermutation, IsNonDecreasingBy}
use Rattle.fb_resolve.specs.Ids.{are_places}

-- each place below the count is one of the numbers, at some index
abbrev HasEach : List ℕ → Type 0
HasEach ns = (k : ℕ) → k < length ns → (i : ℕ) × (i < length ns) × (get_or ns i 0 ≡ k)

each_place : (ns placed : List ℕ) → are_places ns ≡ true → IsPermutation ns placed → HasEach placed
each_place ns placed right same k h =
    let low : k < length ns = omega (arith, length_permutation ns placed same) in
    let among = AllPass-from_list_all (λ k. list_any (λ n. k == n) ns) (range_with_len 0 (length ns)) right k 0
    (rw (length-range_with_len 0 (length ns)) low) in
    let there = Contains-permutation ns placed k same
    ((is_member-Decides Decides-eqb ns k).0 (rw (get_or-range_with_len 0 (length ns) k 0 low, zero-add k) at among))
    in
    (there.0, there.1, get_or_default placed there.0 0 k there.1 ∙ there.2)

-- where the numbers don't fall, a greater place stands behind, so its index is no less than the place
at_least : (ns : List ℕ) → IsNonDecreasingBy (λ n. n) ns → (at : HasEach ns) → (k : ℕ) → (h : k < length ns)
    → k ≤ (at k h).0
at_least ns up at zero h = omega arith
at_least ns up at (suc k) h =
    let l : k < length ns = omega arith in
    let a = at k l in
    let b = at (suc k) h in
    grind (arith, at_least ns up at k l, up b.0 a.0 0)

-- and leaves room for as many indices as there are places behind it
at_most : (ns : List ℕ) → IsNonDecreasingBy (λ n. n) ns → (at : HasEach ns) → (later k : ℕ) → (h : k < length ns)
    → k + later + 1 ≡ length ns
    → (at k h).0 + later < length ns
at_most ns up at zero k h long = omega (arith, (at k h).1)
at_most ns up at (suc later) k h long =
    let l : suc k < length ns = omega arith in
    let a = at k h in
    let b = at (suc k) l in
    grind (arith, at_most ns up at later (suc k) l (omega arith), up b.0 a.0 0)

-- places in order
pub places_at : (ns placed : List ℕ) → are_places ns ≡ true → IsPermutation ns placed
    → IsNonDecreasingBy (λ n. n) placed
    → (k : ℕ) → k < length placed → get_or placed k 0 ≡ k
places_at ns placed right same up k h =
    let at = each_place ns placed right same in
    let index : (at k h).0 ≡ k = omega (
      arith,
      at_least placed up at k h,
      at_most placed up at (length placed - k - 1) k h (omega arith),
    ) in
    ap (λ i. get_or placed i 0) (sym index) ∙ (at k h).2
