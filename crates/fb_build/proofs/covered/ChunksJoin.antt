-- Chunks in front of chunks.
use Rattle.std.proofs.Common.{◌≡◌, ℕ, ◌+◌, ◌≤◌, ◌++◌, false, List, [], ◌∷◌, replicate, length, map, refl, ap, sym, ◌∙◌}
use Rattle.std.proofs.Common.{arith, append_assoc, length-append}
use Rattle.std.specs.Prelude.{flat_map, IsPermutation}
use Rattle.std.proofs.lemmas.List.{get_or-append-add, map-append, length-replicate}
use Rattle.std.proofs.lemmas.List.Sorted.{IsPermutation-trans, IsPermutation-append, IsPermutation-append_left}
use Rattle.std.proofs.lemmas.List.Sorted.{IsPermutation-append_right, IsPermutation-append_comm, IsPermutation-map}
use Rattle.std.proofs.lemmas.Grind.{flat_map-append}
use Rattle.fb_layout.specs.Laid.{LaidSchema}
use Rattle.fb_value.specs.Num.{Bytes}
use Rattle.fb_build.specs.Pieces.{PartAt, Piece, part_piece, vtable_piece}
use Rattle.fb_build.specs.Covered.{Chunk, piece_chunk, zeros_chunk, chunk_bytes, pieces_among, begins_with_zeros}
use Rattle.fb_build.specs.Covered.{RunsAreShort}
use Rattle.fb_build.specs.CoveredTails.{part_further, piece_further}
use Rattle.fb_build.specs.CoveredSteps.{RunsKeptByMore, ChunksJoin, MadeInFront}
use Rattle.fb_value.proofs.tails.SameBytesReadTheSameFurtherOn.{number_moved}

pub runs_under : (most more : ℕ) (cs : List Chunk) → most ≤ more → RunsAreShort most cs → RunsAreShort more cs
runs_under most more [] low h = tt
runs_under most more (piece_chunk kind bytes ∷ cs) low h = runs_under most more cs low h
runs_under most more (zeros_chunk n ∷ cs) low h = (omega (arith, low, h.0), h.1, runs_under most more cs low h.2)

pub more_shown : RunsKeptByMore
more_shown s most more cs low h = record {
  joined = h.joined;
  runs = runs_under most more cs low h.runs;
  first = h.first;
}

first_joined : (fs cs : List Chunk) → begins_with_zeros fs ≡ false → begins_with_zeros cs ≡ false
    → begins_with_zeros (fs ++ cs) ≡ false
first_joined [] cs h g = g
first_joined (piece_chunk kind bytes ∷ fs) cs h g = refl
first_joined (zeros_chunk n ∷ fs) cs h g = h

runs_joined : (most : ℕ) (fs cs : List Chunk) → RunsAreShort most fs → RunsAreShort most cs
    → begins_with_zeros cs ≡ false → RunsAreShort most (fs ++ cs)
runs_joined most [] cs h g first = g
runs_joined most (piece_chunk kind bytes ∷ fs) cs h g first = runs_joined most fs cs h g first
runs_joined most (zeros_chunk n ∷ fs) cs h g first =
    (h.0, first_joined fs cs h.1 first, runs_joined most fs cs h.2 g first)

pieces_joined : (p : ℕ) (fs cs : List Chunk)
    → pieces_among p (fs ++ cs) ≡ pieces_among p fs ++ pieces_among (p + length (flat_map chunk_bytes fs)) cs
pieces_joined p [] cs =
    let still : p ≡ p + 0 = omega arith in
    ap (λ q. pieces_among q cs) still
pieces_joined p (piece_chunk kind bytes ∷ fs) cs =
    let whole : length (bytes ++ flat_map chunk_bytes fs) ≡ length bytes + length (flat_map chunk_bytes fs) =
    length-append bytes (flat_map chunk_bytes fs) in
    let at : (p + length bytes) + length (flat_map chunk_bytes fs) ≡ p + length (bytes ++ flat_map chunk_bytes fs) =
    omega (arith, whole) in
    let x : Piece = record { kind = kind; at = p; size = length bytes } in
    ap (λ ys. x ∷ ys) (pieces_joined (p + length bytes) fs cs
    ∙ ap (λ q. pieces_among (p + length bytes) fs ++ pieces_among q cs) at)
pieces_joined p (zeros_chunk n ∷ fs) cs =
    let whole : length (replicate {A = ℕ} n 0 ++ flat_map chunk_bytes fs) ≡ n + length (flat_map chunk_bytes fs) =
    length-append (replicate n 0) (flat_map chunk_bytes fs)
    ∙ ap (λ k. k + length (flat_map chunk_bytes fs)) (length-replicate n 0) in
    let at : (p + n) + length (flat_map chunk_bytes fs)
    ≡ p + length (replicate {A = ℕ} n 0 ++ flat_map chunk_bytes fs) = omega (arith, whole) in
    pieces_joined (p + n) fs cs ∙ ap (λ q. pieces_among (p + n) fs ++ pieces_among q cs) at

pieces_shifted : (k p : ℕ) (cs : List Chunk) → pieces_among (k + p) cs ≡ map (piece_further k) (pieces_among p cs)
pieces_shifted k p [] = refl
pieces_shifted k p (piece_chunk kind bytes ∷ cs) =
    let at : (k + p) + length bytes ≡ k + (p + length bytes) = omega arith in
    let x : Piece = record { kind = kind; at = k + p; size = length bytes } in
    ap (λ ys. x ∷ ys) (ap (λ q. pieces_among q cs) at ∙ pieces_shifted k (p + length bytes) cs)
pieces_shifted k p (zeros_chunk n ∷ cs) =
    let at : (k + p) + n ≡ k + (p + n) = omega arith in
    ap (λ q. pieces_among q cs) at ∙ pieces_shifted k (p + n) cs

pub join_shown : ChunksJoin
join_shown most front s fs cs h g =
    let at : 0 + length (flat_map chunk_bytes fs) ≡ length front + 0 =
    omega (arith, ap (λ (b : Bytes). length b) h.joined) in (
      record {
        joined = ap (λ b. b ++ s) h.joined ∙ ap (λ b. flat_map chunk_bytes fs ++ b) g.joined
            ∙ sym (flat_map-append chunk_bytes fs cs);
        runs = runs_joined most fs cs h.runs g.runs g.first;
        first = first_joined fs cs h.first g.first;
      },
      pieces_joined 0 fs cs ∙ ap (λ q. pieces_among 0 fs ++ pieces_among q cs) at
          ∙ ap (λ ys. pieces_among 0 fs ++ ys) (pieces_shifted (length front) 0 cs),
    )

-- the two in the middle change places
middle_swapped : {X : Type 0} (a b c d : List X) → IsPermutation ((a ++ b) ++ (c ++ d)) ((a ++ c) ++ (b ++ d))
middle_swapped a b c d =
    let left : (a ++ b) ++ (c ++ d) ≡ a ++ ((b ++ c) ++ d) =
    append_assoc a b (c ++ d) ∙ ap (λ x. a ++ x) (sym (append_assoc b c d)) in
    let right : a ++ ((c ++ b) ++ d) ≡ (a ++ c) ++ (b ++ d) =
    ap (λ x. a ++ x) (append_assoc c b d) ∙ sym (append_assoc a c (b ++ d)) in
    let step : IsPermutation (a ++ ((b ++ c) ++ d)) (a ++ ((c ++ b) ++ d)) =
    IsPermutation-append_right a _ _ (IsPermutation-append_left d _ _ (IsPermutation-append_comm b c)) in
    rw left (rw (← right) step)

vtables_shifted : (front s : Bytes) (qs : List ℕ)
    → map (vtable_piece (front ++ s)) (map (λ q. length front + q) qs)
    ≡ map (piece_further (length front)) (map (vtable_piece s) qs)
vtables_shifted front s [] = refl
vtables_shifted front s (q ∷ qs) =
    rw (number_moved s (front ++ s) (length front) (λ i. get_or-append-add front s i 0) q 2, vtables_shifted front s qs)
    refl

-- the pieces of a tail, as they stand in the whole
pub later_pieces : (L : LaidSchema) (front s : Bytes) (xs : List PartAt) (qs : List ℕ) (cs : List Chunk)
    → map (part_piece L (front ++ s)) (map (part_further (length front)) xs)
    ≡ map (piece_further (length front)) (map (part_piece L s) xs)
    → IsPermutation (pieces_among 0 cs) (map (part_piece L s) xs ++ map (vtable_piece s) qs)
    → IsPermutation (map (piece_further (length front)) (pieces_among 0 cs))
    (map (part_piece L (front ++ s)) (map (part_further (length front)) xs)
    ++ map (vtable_piece (front ++ s)) (map (λ q. length front + q) qs))
later_pieces L front s xs qs cs same made =
    let k = length front in
    let part = part_piece L (front ++ s) in
    let vt = vtable_piece (front ++ s) in
    let old : map (piece_further k) (map (part_piece L s) xs ++ map (vtable_piece s) qs)
    ≡ map part (map (part_further k) xs) ++ map vt (map (λ q. k + q) qs) =
    map-append (piece_further k) _ _ ∙ ap (λ z. z ++ map (piece_further k) (map (vtable_piece s) qs)) (sym same)
    ∙ ap (λ z. map part (map (part_further k) xs) ++ z) (sym (vtables_shifted front s qs)) in
    rw (← old) (IsPermutation-map (piece_further k) _ _ made)

pub made_shown : MadeInFront
made_shown L most front s fs xs ys qs rs h made same own =
    let b = front ++ s in
    let k = length front in
    let both = join_shown most front s fs made.chunks h made.are in
    let part = part_piece L b in
    let vt = vtable_piece b in
    let xs2 = map (part_further k) xs in
    let qs2 = map (λ q. k + q) qs in
    let later : IsPermutation (map (piece_further k) (pieces_among 0 made.chunks)) (map part xs2 ++ map vt qs2) =
    later_pieces L front s xs qs made.chunks same made.pieces in
    let all = IsPermutation-trans _ _ _ (IsPermutation-append _ _ _ _ own later)
    (middle_swapped (map part ys) (map vt rs) (map part xs2) (map vt qs2)) in
    let end : (map part ys ++ map part xs2) ++ (map vt rs ++ map vt qs2) ≡ map part (ys ++ xs2) ++ map vt (rs ++ qs2) =
    ap (λ z. z ++ (map vt rs ++ map vt qs2)) (sym (map-append part ys xs2))
    ∙ ap (λ z. map part (ys ++ xs2) ++ z) (sym (map-append vt rs qs2)) in
    record {
      chunks = fs ++ made.chunks;
      are = both.0;
      pieces = rw both.1 (rw (← end) all);
    }
