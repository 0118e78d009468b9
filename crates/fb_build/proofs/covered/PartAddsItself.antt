-- A part that is laid in front of what is made.
use Rattle.std.proofs.Common.{◌≡◌, ℕ, zero, suc, ◌+◌, ◌-◌, ◌<◌, ◌≤◌, ◌⊎◌, inl, inr, ◌++◌, Bool, true, false, cond, ◌==◌}
use Rattle.std.proofs.Common.{max, List, [], ◌∷◌, length, replicate, map, slice_index, None, refl, ap, sym, ◌∙◌, arith}
use Rattle.std.proofs.Common.{append_assoc, length-append}
use Rattle.std.proofs.lemmas.List.Elements.{All-nil, All-cons}
use Rattle.std.proofs.lemmas.List.Sorted.{IsPermutation-refl}
use Rattle.fb_layout.specs.Laid.{LaidSchema}
use Rattle.fb_value.specs.Num.{Bytes}
use Rattle.fb_value.specs.Places.{Target}
use Rattle.fb_build.specs.Pieces.{PartAt, part_size, part_align, vtable_of, is_among, tables_vtables, whole_part, Piece}
use Rattle.fb_build.specs.Covered.{piece_chunk, zeros_chunk}
use Rattle.fb_build.specs.Tails.{TailSeen}
use Rattle.fb_build.specs.Made.{StaysInFront, laid_at, times_among, Adds}
use Rattle.std.proofs.lemmas.Bool.{ne_eqb}
use Rattle.std.proofs.lemmas.List.Sums.{sum_by-cons}
use Rattle.fb_build.proofs.covered.DistinctNumbersAreListedOnce.{same_bool, same_test, among_further}
use Rattle.fb_build.proofs.covered.TightTailIsCovered.{before_moved}
use Rattle.fb_build.proofs.covered.PartsInFrontAreAdded.{LaysInFront, made_laid}
use Rattle.fb_layout.proofs.sizes.AlignmentsArePowersOfTwo.{lower}

pub laid_further : (front s : Bytes) (places : List ℕ) → ((i : ℕ) → slice_index places i ≤ length s)
    → laid_at (front ++ s) places ≡ map (λ q. length front + q) (laid_at s places)
laid_further front s [] within = refl
laid_further front s (zero ∷ places) within = laid_further front s places (λ i. within (suc i))
laid_further front s (suc e ∷ places) within =
    let whole = length-append front s in
    let first = within 0 in
    let at : length (front ++ s) - suc e ≡ length front + (length s - suc e) = omega (arith, whole, first) in
    rw (at, laid_further front s places (λ i. within (suc i))) refl

one_further : (k q : ℕ) (ms ns : List ℕ) → ((n : ℕ) → is_among n ms ≡ is_among n ns)
    → is_among q (map (λ n. k + n) ms) ≡ true → is_among q (map (λ n. k + n) ns) ≡ true
one_further k q ms ns same h =
    let there = before_moved k q ms h in
    ap (λ n. is_among n (map (λ m. k + m) ns)) there.1 ∙ among_further k there.0 ns ∙ sym (same there.0) ∙ there.2

pub same_further : (k q : ℕ) (ms ns : List ℕ) → ((n : ℕ) → is_among n ms ≡ is_among n ns)
    → is_among q (map (λ n. k + n) ms) ≡ is_among q (map (λ n. k + n) ns)
same_further k q ms ns same = same_bool _ _ (one_further k q ms ns same) (one_further k q ns ms (λ n. sym (same n)))

-- ---- how often

none_before : (k q : ℕ) (ms : List ℕ) → q < k → times_among q (map (λ n. k + n) ms) ≡ 0
none_before k q [] low = refl
none_before k q (m ∷ ms) low =
    let other : (q == (k + m)) ≡ false = ne_eqb q (k + m) (λ same. omega (arith, same, low)) in
    let e = sum_by-cons (λ n. cond (q == n) 1 0) (k + m) (map (λ n. k + n) ms) in
    let one : ◌≡◌ {A = ℕ} (cond (q == (k + m)) 1 0) 0 = rw other refl in
    omega (arith, e, one, none_before k q ms low)

as_often : (k j : ℕ) (ms : List ℕ) → times_among (k + j) (map (λ n. k + n) ms) ≡ times_among j ms
as_often k j [] = refl
as_often k j (m ∷ ms) =
    let e = sum_by-cons (λ n. cond ((k + j) == n) 1 0) (k + m) (map (λ n. k + n) ms) in
    let d = sum_by-cons (λ n. cond (j == n) 1 0) m ms in
    let one : ◌≡◌ {A = ℕ} (cond ((k + j) == (k + m)) 1 0) (cond (j == m) 1 0) =
    ap (λ (t : Bool). cond {A = ℕ} t 1 0) (same_test k j m) in
    omega (arith, e, d, one, as_often k j ms)

pub times_further : (k : ℕ) (ms : List ℕ) → ((n : ℕ) → times_among n ms ≤ 1) → (q : ℕ)
    → times_among q (map (λ n. k + n) ms) ≤ 1
times_further k ms once q = by_case (lower k q)
  where
    by_case : (k ≤ q) ⊎ (q < k) → times_among q (map (λ n. k + n) ms) ≤ 1
    by_case (inr low) = omega (arith, none_before k q ms low)
    by_case (inl over) =
        let split : k + (q - k) ≡ q = omega (arith, over) in
        let same : times_among q (map (λ n. k + n) ms) ≡ times_among (q - k) ms =
        ap (λ i. times_among i (map (λ n. k + n) ms)) (sym split) ∙ as_often k (q - k) ms in
        let own = once (q - k) in
        omega (arith, same, own)

pub times_with_first : (k : ℕ) (ms : List ℕ) → 0 < k → ((n : ℕ) → times_among n ms ≤ 1) → (q : ℕ)
    → times_among q (0 ∷ map (λ n. k + n) ms) ≤ 1
times_with_first k ms some once q = by_case (lower 1 q)
  where
    further : List ℕ
    further = map (λ n. k + n) ms

    by_case : (1 ≤ q) ⊎ (q < 1) → times_among q (0 ∷ map (λ n. k + n) ms) ≤ 1
    by_case (inr low) =
        let first : q ≡ 0 = omega (arith, low) in
        let e = sum_by-cons (λ n. cond (0 == n) 1 0) 0 (map (λ n. k + n) ms) in
        let rest = none_before k 0 ms some in
        rw first (omega (arith, e, rest))
    by_case (inl over) =
        let other : (q == 0) ≡ false = ne_eqb q 0 (λ same. omega (arith, same, over)) in
        let e = sum_by-cons (λ n. cond (q == n) 1 0) 0 (map (λ n. k + n) ms) in
        let one : ◌≡◌ {A = ℕ} (cond (q == 0) 1 0) 0 = rw other refl in
        let rest = times_further k ms once q in
        omega (arith, e, one, rest)

pub front_joined : (bytes s : Bytes) (zeros : ℕ)
    → bytes ++ (replicate zeros 0 ++ s) ≡ (bytes ++ (replicate zeros 0 ++ [])) ++ s
front_joined bytes s zeros = ap (λ z. bytes ++ z) (sym (append_assoc (replicate zeros 0) [] s))
    ∙ sym (append_assoc bytes (replicate zeros 0 ++ []) s)

-- a text or a vector, with zeros behind it
pub part_laid : (L : LaidSchema) (a b : TailSeen) (X : Target) (bytes : Bytes) (zeros : ℕ)
    → b.bytes ≡ bytes ++ (replicate zeros 0 ++ a.bytes) → zeros < b.most → part_size L b.bytes X 0 ≡ length bytes
    → vtable_of b.bytes X 0 ≡ None → StaysInFront L b.bytes (record { target = X; at = 0 })
    → b.most ≡ max a.most (max 4 (part_align L b.bytes X 0)) → (places : List ℕ)
    → Adds L a places b places (record { target = X; at = 0 } ∷ [])
part_laid L a b X bytes zeros is low size none stay most places xs made =
    let front = bytes ++ (replicate zeros 0 ++ []) in
    let grown : b.bytes ≡ front ++ a.bytes = is ∙ front_joined bytes a.bytes zeros in
    let x : PartAt = record { target = X; at = 0 } in
    let moved : laid_at b.bytes places ≡ map (λ q. length front + q) (laid_at a.bytes places) =
    ap (λ s. laid_at s places) grown ∙ laid_further front a.bytes places made.within in
    let wide = made.widest in
    let long = ap length grown in
    let parts = length-append front a.bytes in
    let own : Piece = record { kind = whole_part; at = 0; size = length bytes } in
    let lays : LaysInFront L a b places places (x ∷ []) [] = record {
      front = front;
      grown = grown;
      chunks = piece_chunk whole_part bytes ∷ zeros_chunk zeros ∷ [];
      are = record { joined = refl; runs = (low, refl, tt); first = refl };
      pieces = rw size (IsPermutation-refl (own ∷ []));
      stay = All-cons (StaysInFront L b.bytes) x [] stay (All-nil (StaysInFront L b.bytes));
      within = λ i. let under = made.within i in omega (arith, under, long, parts);
      laid = rw moved (IsPermutation-refl _);
      most = omega (arith, most, wide);
    } in
    made_laid L a b places places (x ∷ []) [] lays xs made (λ q. ap (is_among q) moved
    ∙ same_further (length front) q (laid_at a.bytes places) (tables_vtables a.bytes xs) made.served ∙ rw none refl)
    (times_further (length front) (laid_at a.bytes places) made.once)
