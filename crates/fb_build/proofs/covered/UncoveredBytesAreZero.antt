-- What follows of bytes that are covered.
use Rattle.std.proofs.Common.{◌≡◌, ℕ, zero, suc, ◌+◌, ◌-◌, ◌≤◌, ◌<◌, ◌⊎◌, inl, inr, ◌++◌, Bool, true, false, not}
use Rattle.std.proofs.Common.{nat_lt, nat_le, List, [], ◌∷◌, replicate, length, get_or, slice_index, refl, ap, ◌∙◌}
use Rattle.std.proofs.Common.{arith, length-append}
use Rattle.std.specs.Prelude.{flat_map}
use Rattle.std.specs.List.{AllPass}
use Rattle.std.proofs.lemmas.Bool.{true≢false, ltb-true, ltb-false, leb-false, not-true, and_cases, cases_lt}
use Rattle.std.proofs.lemmas.List.{get_or_append_left, get_or-append_right, get_or-replicate, length-replicate}
use Rattle.std.proofs.lemmas.List.Sorted.{All-permutation, IsPermutation-sym}
use Rattle.fb_value.specs.Num.{Bytes}
use Rattle.fb_value.specs.Holds.{root_place}
use Rattle.fb_value.proofs.held.LyingValueIsComputed.{one_value}
use Rattle.fb_tape.specs.Taken.{is_within}
use Rattle.fb_build.specs.Pieces.{Piece, PieceKind, reached_parts, greatest_align}
use Rattle.fb_build.specs.Covered.{Chunk, piece_chunk, zeros_chunk, chunk_bytes, pieces_among, begins_with_zeros}
use Rattle.fb_build.specs.Covered.{RunsAreShort}
use Rattle.fb_build.specs.CoveredLaws.{is_outside, CoveredByItsValue, ZeroOutside, FewOutside}

pub by_its_value_shown : CoveredByItsValue
by_its_value_shown L b w lies (v, lies_v, covered) =
    rw (← (one_value L b (root_place L).sort 0 v w lies_v lies)) covered

-- byte p + i, where n bytes from p on are a piece, isn't one of them only where i isn't below n
passed_by : (p n i : ℕ) → not (is_within p n (p + i)) ≡ true → n ≤ i
passed_by p n i h =
    by_cases (and_cases (nat_le p (p + i)) (nat_lt (p + i) (p + n)) (not-true _ h))
  where
    by_cases : (nat_le p (p + i) ≡ false) ⊎ (nat_lt (p + i) (p + n) ≡ false) → n ≤ i
    by_cases (inl e) = absurd (omega (arith, leb-false p (p + i) e))
    by_cases (inr e) = omega (arith, ltb-false (p + i) (p + n) e)

abbrev the_piece : PieceKind → Bytes → ℕ → Piece
the_piece kind bytes p = record { kind = kind; at = p; size = length bytes }

first_of_all : (test : Piece → Bool) (x : Piece) (xs : List Piece) → AllPass test (x ∷ xs) → test x ≡ true
first_of_all test x xs h = h zero x (omega arith)

rest_of_all : (test : Piece → Bool) (x : Piece) (xs : List Piece) → AllPass test (x ∷ xs) → AllPass test xs
rest_of_all test x xs h k d below = h (suc k) d (omega (arith, below))

zero_outside : (cs : List Chunk) (p i : ℕ) → AllPass (is_outside (p + i)) (pieces_among p cs)
    → get_or (flat_map chunk_bytes cs) i 0 ≡ 0
zero_outside [] p i h = refl
zero_outside (piece_chunk kind bytes ∷ cs) p i h =
    let xs = pieces_among (p + length bytes) cs in
    let low = passed_by p (length bytes) i (first_of_all (is_outside (p + i)) (the_piece kind bytes p) xs h) in
    let at : p + i ≡ (p + length bytes) + (i - length bytes) = omega (arith, low) in
    let rest = rw at at (rest_of_all
    (is_outside (p + i)) (the_piece kind bytes p) xs h) in
    get_or-append_right bytes (flat_map chunk_bytes cs) (length bytes) i 0 refl low
    ∙ zero_outside cs (p + length bytes) (i - length bytes) rest
zero_outside (zeros_chunk n ∷ cs) p i h =
    by_cases (λ rest. zero_outside cs (p + n) (i - n) rest) (cases_lt i n)
  where
    by_cases : (AllPass (is_outside ((p + n) + (i - n))) (pieces_among (p + n) cs)
        → get_or (flat_map chunk_bytes cs) (i - n) 0 ≡ 0) → (i < n) ⊎ (n ≤ i)
        → get_or (replicate n 0 ++ flat_map chunk_bytes cs) i 0 ≡ 0
    by_cases later (inl low) =
        let within : i < length (replicate {A = ℕ} n 0) = simp length-replicate low in
        get_or_append_left (replicate n 0) (flat_map chunk_bytes cs) 0 i within ∙ get_or-replicate n i 0 0 low
    by_cases later (inr high) =
        let at : p + i ≡ (p + n) + (i - n) = omega (arith, high) in
        let rest = rw at at h in
        get_or-append_right (replicate n 0) (flat_map chunk_bytes cs) n i 0 (length-replicate n 0) high ∙ later rest

from_zero : (i : ℕ) → i ≡ 0 + i
from_zero i = omega arith

pub zero_outside_shown : ZeroOutside
zero_outside_shown L b v covered i h =
    let back = IsPermutation-sym _ _ covered.made.pieces in
    let among = All-permutation (λ x. is_outside i x ≡ true) _ _ back h in
    ap (λ (xs : Bytes). slice_index xs i) covered.made.joined
    ∙ zero_outside covered.made.chunks 0 i
    (rw (← (from_zero i)) among)

-- Of `most` bytes from byte i of the chunks on, one is in a piece.
few_outside : (most : ℕ) (cs : List Chunk) (p i : ℕ) → 0 < most → RunsAreShort most cs
    → AllPass (λ x. nat_lt 0 x.size) (pieces_among p cs) → i + most ≤ length (flat_map chunk_bytes cs)
    → ((j : ℕ) → j < most → AllPass (is_outside (p + (i + j))) (pieces_among p cs)) → ⊥
few_outside most [] p i some runs full long out = omega (arith, some, long)
few_outside most (piece_chunk kind bytes ∷ cs) p i some runs full long out =
    let xs = pieces_among (p + length bytes) cs in
    let x = the_piece kind bytes p in
    let low = passed_by p (length bytes) (i + 0) (first_of_all (is_outside (p + (i + 0))) x xs (out 0 some)) in
    let whole : length (bytes ++ flat_map chunk_bytes cs) ≡ length bytes + length (flat_map chunk_bytes cs) =
    length-append bytes (flat_map chunk_bytes cs) in
    few_outside most cs (p + length bytes) (i - length bytes) some runs (rest_of_all (λ y. nat_lt 0 y.size) x xs full)
    (omega (arith, low, whole, long))
    (λ j below.
    let at : p + (i + j) ≡ (p + length bytes) + ((i - length bytes) + j) = omega (arith, low) in
    rw (← at) (rest_of_all
    (is_outside (p + (i + j))) x xs (out j below)))
few_outside most (zeros_chunk n ∷ cs) p i some runs full long out =
    by_cases (λ rest more. few_outside most cs (p + n) (i - n) some runs.2 full rest more) (cases_lt i n)
  where
    whole : length (replicate {A = ℕ} n 0 ++ flat_map chunk_bytes cs) ≡ n + length (flat_map chunk_bytes cs)
    whole = length-append (replicate n 0) (flat_map chunk_bytes cs)
        ∙ ap (λ k. k + length (flat_map chunk_bytes cs)) (length-replicate n 0)

    next : (ds : List Chunk) → begins_with_zeros ds ≡ false → AllPass (λ x. nat_lt 0 x.size) (pieces_among (p + n) ds)
        → i < n → n < length (replicate {A = ℕ} n 0 ++ flat_map chunk_bytes ds)
        → AllPass (is_outside (p + n)) (pieces_among (p + n) ds) → ⊥
    next [] apart some_bytes low more here =
        let none : length (replicate {A = ℕ} n 0 ++ []) ≡ n + 0 =
        length-append (replicate n 0) [] ∙ ap (λ k. k + 0) (length-replicate n 0) in
        omega (arith, more, none)
    next (zeros_chunk k ∷ ds) apart some_bytes low more here = true≢false apart
    next (piece_chunk kind bytes ∷ ds) apart some_bytes low more here =
        let at : (p + n) + 0 ≡ p + n = omega arith in
        let x = the_piece kind bytes (p + n) in
        let xs = pieces_among ((p + n) + length bytes) ds in
        let empty = passed_by (p + n) (length bytes) 0
        (rw at (first_of_all (is_outside (p + n)) x xs here)) in
        omega (arith, empty, ltb-true 0 (length bytes) (first_of_all (λ y. nat_lt 0 y.size) x xs some_bytes))

    by_cases : ((i - n) + most ≤ length (flat_map chunk_bytes cs)
        → ((j : ℕ) → j < most → AllPass (is_outside ((p + n) + ((i - n) + j))) (pieces_among (p + n) cs)) → ⊥)
        → (i < n) ⊎ (n ≤ i) → ⊥
    by_cases later (inl low) =
        let at : p + (i + (n - i)) ≡ p + n = omega (arith, low) in
        next cs runs.1 full low (omega (arith, low, long, runs.0))
        (rw at at (out (n - i)
        (omega (arith, low, runs.0))))
    by_cases later (inr high) =
        later (omega (arith, high, whole, long))
        (λ j below.
        let at : p + (i + j) ≡ (p + n) + ((i - n) + j) = omega (arith, high) in
        rw (← at) (out j below))

pub few_outside_shown : FewOutside
few_outside_shown L b v covered full i long out =
    let back = IsPermutation-sym _ _ covered.made.pieces in
    few_outside (greatest_align L b (reached_parts L b v)) covered.made.chunks 0 i some covered.made.runs
    (All-permutation (λ x. nat_lt 0 x.size ≡ true) _ _ back full)
    (rw (← covered.made.joined) long)
    (λ j below. rw (← (from_zero (i + j))) (All-permutation (λ x. is_outside (i + j) x ≡ true) _ _ back (out j below)))
  where
    some : 0 < greatest_align L b (reached_parts L b v)
    some = omega arith
