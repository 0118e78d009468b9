-- Steps of what is made: parts in another order, and parts that are laid in front.
use Rattle.std.proofs.Common.{◌≡◌, ℕ, ◌+◌, ◌-◌, ◌≤◌, ◌++◌, Bool, true, false, ◌==◌, ◌||◌, max, nat_lt, cond, List, []}
use Rattle.std.proofs.Common.{◌∷◌, length, map, slice_index, Option, None, Some, option_map, refl, ap, sym, ◌∙◌}
use Rattle.std.proofs.Common.{arith, append_assoc, length-append}
use Rattle.std.specs.Prelude.{IsPermutation}
use Rattle.std.specs.List.{All, sum_by, filter_map, cons_option}
use Rattle.std.proofs.lemmas.Bool.{lt-ltb}
use Rattle.std.proofs.lemmas.List.{map-append}
use Rattle.std.proofs.lemmas.List.Elements.{All-nil, All-cons, All-head, All-tail, All-append, filter_map-append}
use Rattle.std.proofs.lemmas.List.Sums.{sum_by-cons}
use Rattle.std.proofs.lemmas.List.Sorted.{IsPermutation-trans, IsPermutation-append_left, IsPermutation-append_right}
use Rattle.std.proofs.lemmas.List.Sorted.{IsPermutation-map, All-permutation, sum_by-IsPermutation}
use Rattle.fb_schema.specs.Alignments.{greatest_in}
use Rattle.fb_layout.specs.Laid.{LaidSchema}
use Rattle.fb_value.specs.Num.{Bytes}
use Rattle.fb_build.specs.Pieces.{PartAt, part_size, part_align, vtable_of, is_among, tables_vtables, part_piece}
use Rattle.fb_build.specs.Pieces.{vtable_piece}
use Rattle.fb_build.specs.Covered.{Chunk, pieces_among}
use Rattle.fb_build.specs.CoveredTails.{part_further, piece_further}
use Rattle.fb_build.specs.CoveredSteps.{ChunksOfTail, MadeInTail}
use Rattle.fb_build.specs.Tails.{TailSeen}
use Rattle.fb_build.specs.Made.{StaysInFront, laid_at, times_among, IsMade}
use Rattle.fb_build.proofs.covered.ChunksJoin.{more_shown, made_shown}

-- ---- in another order

module _ {X : Type 0} (f : X → ℕ) where
  under : (n : ℕ) (xs : List X) → sum_by (λ x. f x - n) xs ≡ 0 → greatest_in (map f xs) ≤ n
  under n [] h = omega arith
  under n (x ∷ xs) h =
      let e = sum_by-cons (λ y. f y - n) x xs in
      let rest = under n xs (omega (arith, e, h)) in
      omega (arith, e, h, rest)

  none_over : (n : ℕ) (xs : List X) → greatest_in (map f xs) ≤ n → sum_by (λ x. f x - n) xs ≡ 0
  none_over n [] h = refl
  none_over n (x ∷ xs) h =
      let e = sum_by-cons (λ y. f y - n) x xs in
      let rest = none_over n xs (omega (arith, h)) in
      omega (arith, e, h, rest)

  pub same_greatest : (xs ys : List X) → IsPermutation xs ys → greatest_in (map f xs) ≡ greatest_in (map f ys)
  same_greatest xs ys h =
      let a = greatest_in (map f xs) in
      let b = greatest_in (map f ys) in
      let down : b ≤ a = under a ys (sum_by-IsPermutation (λ x. f x - a) xs ys h ∙ none_over a xs (omega arith)) in
      let up : a ≤ b = under b xs (sym (sum_by-IsPermutation (λ x. f x - b) xs ys h) ∙ none_over b ys (omega arith)) in
      omega (arith, up, down)

-- how often a number is that of a vtable
weight : ℕ → Option ℕ → ℕ
weight q None = 0
weight q (Some n) = cond (q == n) 1 0

either_counted : (t r : Bool) (n : ℕ) → r ≡ nat_lt 0 n → (t || r) ≡ nat_lt 0 (cond t 1 0 + n)
either_counted true r n e = sym (lt-ltb 0 (1 + n) (omega arith))
either_counted false r n e = let none : 0 + n ≡ n = omega arith in rw none e

one_counted : (o : Option ℕ) (q : ℕ) (ns : List ℕ) (n : ℕ) → is_among q ns ≡ nat_lt 0 n
    → is_among q (cons_option o ns) ≡ nat_lt 0 (weight q o + n)
unfolding weight
one_counted None q ns n e = let none : 0 + n ≡ n = omega arith in rw none e
one_counted (Some m) q ns n e = either_counted (q == m) (is_among q ns) n e

counted : {X : Type 0} (f : X → Option ℕ) (q : ℕ) (xs : List X)
    → is_among q (filter_map f xs) ≡ nat_lt 0 (sum_by (λ x. weight q (f x)) xs)
unfolding weight
counted f q [] = refl
counted f q (x ∷ xs) = rw (sum_by-cons (λ y. weight q (f y)) x xs)
    (one_counted (f x) q (filter_map f xs) (sum_by (λ y. weight q (f y)) xs) (counted f q xs))

pub same_among : {X : Type 0} (f : X → Option ℕ) (q : ℕ) (xs ys : List X) → IsPermutation xs ys
    → is_among q (filter_map f xs) ≡ is_among q (filter_map f ys)
same_among f q xs ys h = counted f q xs
    ∙ ap (λ n. nat_lt 0 n) (sym (sum_by-IsPermutation (λ x. weight q (f x)) xs ys h)) ∙ sym (counted f q ys)

pub made_permuted : (L : LaidSchema) (o : TailSeen) (places : List ℕ) (xs ys : List PartAt) → IsPermutation xs ys
    → IsMade L o places xs → IsMade L o places ys
made_permuted L o places xs ys h made = record {
  within = made.within;
  stay = All-permutation (StaysInFront L o.bytes) xs ys h made.stay;
  made = record {
    chunks = made.made.chunks;
    are = made.made.are;
    pieces = IsPermutation-trans _ _ _ made.made.pieces
        (IsPermutation-append_left (map (vtable_piece o.bytes) (laid_at o.bytes places)) _ _
        (IsPermutation-map (part_piece L o.bytes) xs ys h));
  };
  once = made.once;
  served = λ q. made.served q ∙ same_among (λ x. vtable_of o.bytes x.target x.at) q xs ys h;
  widest = made.widest ∙ ap (λ n. max 4 n) (same_greatest (λ x. part_align L o.bytes x.target x.at) xs ys h);
}

-- ---- further on

pub stays_on : (L : LaidSchema) (front s : Bytes) (x : PartAt) → StaysInFront L s x
    → StaysInFront L (front ++ s) (part_further (length front) x)
stays_on L front s x h = record { size = size; vtable = vtable; align = align }
  where
    at : (more : Bytes) → length more + (length front + x.at) ≡ length (more ++ front) + x.at
    at more = let e = length-append more front in omega (arith, e)

    size : (more : Bytes) → part_size L (more ++ (front ++ s)) x.target (length more + (length front + x.at))
        ≡ part_size L (front ++ s) x.target (length front + x.at)
    size more = rw (at more, ← append_assoc more front s) (h.size (more ++ front) ∙ sym (h.size front))

    align : (more : Bytes) → part_align L (more ++ (front ++ s)) x.target (length more + (length front + x.at))
        ≡ part_align L (front ++ s) x.target (length front + x.at)
    align more = rw (at more, ← append_assoc more front s) (h.align (more ++ front) ∙ sym (h.align front))

    twice : (more : Bytes) (o : Option ℕ) → option_map (λ q. length (more ++ front) + q) o
        ≡ option_map (λ q. length more + q) (option_map (λ q. length front + q) o)
    twice more None = refl
    twice more (Some q) = let e = length-append more front in ap (λ (n : ℕ). Some n) (omega (arith, e))

    vtable : (more : Bytes) → vtable_of (more ++ (front ++ s)) x.target (length more + (length front + x.at))
        ≡ option_map (λ q. length more + q) (vtable_of (front ++ s) x.target (length front + x.at))
    vtable more = rw (at more, ← append_assoc more front s) (h.vtable (more ++ front)
        ∙ twice more (vtable_of s x.target x.at) ∙ sym (ap (option_map (λ q. length more + q)) (h.vtable front)))

all_stay_on : (L : LaidSchema) (front s : Bytes) (xs : List PartAt) → All (StaysInFront L s) xs
    → All (StaysInFront L (front ++ s)) (map (part_further (length front)) xs)
all_stay_on L front s [] h = All-nil (StaysInFront L (front ++ s))
all_stay_on L front s (x ∷ xs) h =
    let P = StaysInFront L s in
    let first = stays_on L front s x (All-head P x xs h) in
    All-cons (StaysInFront L (front ++ s)) (part_further (length front) x) (map (part_further (length front)) xs) first
    (all_stay_on L front s xs (All-tail P x xs h))

pieces_stay : (L : LaidSchema) (front s : Bytes) (xs : List PartAt) → All (StaysInFront L s) xs
    → map (part_piece L (front ++ s)) (map (part_further (length front)) xs)
    ≡ map (piece_further (length front)) (map (part_piece L s) xs)
pieces_stay L front s [] h = refl
pieces_stay L front s (x ∷ xs) h =
    let P = StaysInFront L s in
    let first : StaysInFront L s x = All-head P x xs h in
    rw (first.size front, pieces_stay L front s xs (All-tail P x xs h)) refl

one_stays : (k : ℕ) (o : Option ℕ) (us vs : List ℕ) → us ≡ map (λ q. k + q) vs
    → cons_option (option_map (λ q. k + q) o) us ≡ map (λ q. k + q) (cons_option o vs)
one_stays k None us vs e = e
one_stays k (Some q) us vs e = ap (λ z. (k + q) ∷ z) e

pub vtables_stay : (L : LaidSchema) (front s : Bytes) (xs : List PartAt) → All (StaysInFront L s) xs
    → tables_vtables (front ++ s) (map (part_further (length front)) xs)
    ≡ map (λ q. length front + q) (tables_vtables s xs)
vtables_stay L front s [] h = refl
vtables_stay L front s (x ∷ xs) h =
    let P = StaysInFront L s in
    let first : StaysInFront L s x = All-head P x xs h in
    rw (first.vtable front) (one_stays (length front) (vtable_of s x.target x.at) _ _
    (vtables_stay L front s xs (All-tail P x xs h)))

pub greatest_stay : (L : LaidSchema) (front s : Bytes) (xs : List PartAt) → All (StaysInFront L s) xs
    → greatest_in (map (λ x. part_align L (front ++ s) x.target x.at) (map (part_further (length front)) xs))
    ≡ greatest_in (map (λ x. part_align L s x.target x.at) xs)
greatest_stay L front s [] h = refl
greatest_stay L front s (x ∷ xs) h =
    let P = StaysInFront L s in
    let first : StaysInFront L s x = All-head P x xs h in
    rw (first.align front, greatest_stay L front s xs (All-tail P x xs h)) refl

greatest_joined : (xs ys : List ℕ) → greatest_in (xs ++ ys) ≡ max (greatest_in xs) (greatest_in ys)
greatest_joined [] ys = omega arith
greatest_joined (x ∷ xs) ys = let rest = greatest_joined xs ys in omega (arith, rest)

-- ---- laid in front

-- what is laid in front of a tail, as chunks, parts and vtables of its own
pub record LaysInFront (L : LaidSchema) (a b : TailSeen) (before after : List ℕ) (ys : List PartAt)
    (rs : List ℕ) : Type 0 where
  pub front : Bytes
  pub grown : b.bytes ≡ front ++ a.bytes
  pub chunks : List Chunk
  pub are : ChunksOfTail front b.most chunks
  pub pieces : IsPermutation (pieces_among 0 chunks) (map (part_piece L b.bytes) ys ++ map (vtable_piece b.bytes) rs)
  pub stay : All (StaysInFront L b.bytes) ys
  pub within : (i : ℕ) → slice_index after i ≤ length b.bytes
  pub laid : IsPermutation (rs ++ map (λ q. length front + q) (laid_at a.bytes before)) (laid_at b.bytes after)
  pub most : b.most ≡ max a.most (greatest_in (map (λ x. part_align L b.bytes x.target x.at) ys))

pub made_laid : (L : LaidSchema) (a b : TailSeen) (before after : List ℕ) (ys : List PartAt) (rs : List ℕ)
    (h : LaysInFront L a b before after ys rs) (xs : List PartAt) → IsMade L a before xs
    → ((q : ℕ) → is_among q (laid_at b.bytes after)
    ≡ is_among q (tables_vtables b.bytes ys ++ map (λ q. length h.front + q) (tables_vtables a.bytes xs)))
    → ((q : ℕ) → times_among q (rs ++ map (λ n. length h.front + n) (laid_at a.bytes before)) ≤ 1)
    → IsMade L b after (ys ++ map (part_further (length b.bytes - length a.bytes)) xs)
made_laid L a b before after ys rs h xs made served once =
    let k = length h.front in
    let s = a.bytes in
    let more : a.most ≤ b.most = omega (arith, h.most) in
    let long : length b.bytes - length s ≡ k =
    (let e = ap length h.grown in let parts = length-append h.front s in omega (arith, e, parts)) in
    let old : MadeInTail L s b.most xs (laid_at s before) =
    record {
      chunks = made.made.chunks;
      are = more_shown s a.most b.most made.made.chunks more made.made.are;
      pieces = made.made.pieces;
    } in
    let own = rw h.grown at h.pieces in
    let front = made_shown L b.most h.front s h.chunks xs ys (laid_at s before) rs h.are old
    (pieces_stay L h.front s xs made.stay) own in
    let zs = ys ++ map (part_further k) xs in
    let f = part_piece L b.bytes in
    let front2 : MadeInTail L b.bytes b.most zs (rs ++ map (λ q. k + q) (laid_at s before)) = rw h.grown front in
    let whole : MadeInTail L b.bytes b.most zs (laid_at b.bytes after) = record {
      chunks = front2.chunks;
      are = front2.are;
      pieces = IsPermutation-trans _ _ _ front2.pieces
          (IsPermutation-append_right (map f zs) _ _ (IsPermutation-map (vtable_piece b.bytes) _ _ h.laid));
    } in
    let later : All (StaysInFront L b.bytes) (map (part_further k) xs) =
    rw h.grown (all_stay_on L h.front s xs made.stay) in
    let vtables : tables_vtables b.bytes (map (part_further k) xs) ≡ map (λ q. k + q) (tables_vtables s xs) =
    rw h.grown (vtables_stay L h.front s xs made.stay) in
    let aligns : greatest_in (map (λ x. part_align L b.bytes x.target x.at) (map (part_further k) xs))
    ≡ greatest_in (map (λ x. part_align L s x.target x.at) xs) =
    rw h.grown (greatest_stay L h.front s xs made.stay) in
    let g = λ (x : PartAt). part_align L b.bytes x.target x.at in
    let joined : greatest_in (map g zs) ≡ max (greatest_in (map g ys)) (greatest_in (map g (map (part_further k) xs))) =
    ap greatest_in (map-append g ys (map (part_further k) xs))
    ∙ greatest_joined (map g ys) (map g (map (part_further k) xs)) in
    let both : tables_vtables b.bytes zs ≡ tables_vtables b.bytes ys ++ map (λ q. k + q) (tables_vtables s xs) =
    filter_map-append (λ x. vtable_of b.bytes x.target x.at) ys (map (part_further k) xs)
    ∙ ap (λ z. tables_vtables b.bytes ys ++ z) vtables in
    rw long (record {
      within = h.within;
      stay = All-append (StaysInFront L b.bytes) ys (map (part_further k) xs) h.stay later;
      made = whole;
      once = λ q. (let same = sum_by-IsPermutation (λ n. cond (q == n) 1 0) _ _ h.laid in let own = once q in
          omega (arith, same, own));
      served = λ q. served q ∙ ap (is_among q) (sym both);
      widest = omega (arith, h.most, made.widest, joined, aligns);
    })
