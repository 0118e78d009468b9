-- A table that is laid in front of what is made, and its vtable unless it was laid before.
use Rattle.std.proofs.Common.{◌≡◌, ℕ, zero, suc, ◌+◌, ◌-◌, ◌<◌, ◌≤◌, ◌++◌, Bool, true, false, ◌==◌, ◌||◌}
use Rattle.std.proofs.Common.{max, List, [], ◌∷◌, length, replicate, map, slice_index, Some, refl, ap, sym}
use Rattle.std.proofs.Common.{◌∙◌, arith, append_assoc, length-append}
use Rattle.std.specs.Prelude.{IsPermutation}
use Rattle.std.specs.List.{filter_map}
use Rattle.std.proofs.lemmas.Bool.{or_left, or_right, eq-eqb, eqb-true}
use Rattle.std.proofs.lemmas.List.Elements.{All-nil, All-cons}
use Rattle.std.proofs.lemmas.List.Sorted.{IsPermutation-refl, IsPermutation-trans, IsPermutation-sym}
use Rattle.std.proofs.lemmas.List.Sorted.{IsPermutation-cons, IsPermutation-middle, IsPermutation-append_comm}
use Rattle.fb_layout.specs.Laid.{LaidSchema}
use Rattle.fb_value.specs.Num.{Bytes, num}
use Rattle.fb_value.specs.Places.{table_part, vtable}
use Rattle.fb_build.specs.Pieces.{PartAt, part_size, part_align, is_among, tables_vtables, whole_part, whole_vtable}
use Rattle.fb_build.specs.Pieces.{Piece}
use Rattle.fb_build.specs.Covered.{piece_chunk, zeros_chunk}
use Rattle.fb_build.specs.Tails.{TailSeen}
use Rattle.fb_build.specs.Made.{StaysInFront, laid_at, Adds}
use Rattle.fb_build.proofs.covered.PartsInFrontAreAdded.{LaysInFront, made_laid, same_among}
use Rattle.fb_build.proofs.covered.PartAddsItself.{laid_further, same_further, times_further, times_with_first}
use Rattle.fb_build.proofs.covered.PartAddsItself.{front_joined}

-- ---- the places of vtables

pub laid_there : (s : Bytes) (places : List ℕ) (k : ℕ) → 0 < slice_index places k
    → is_among (length s - slice_index places k) (laid_at s places) ≡ true
laid_there s [] k some = absurd (omega (arith, some))
laid_there s (zero ∷ places) zero some = absurd (omega (arith, some))
laid_there s (zero ∷ places) (suc k) some = laid_there s places k some
laid_there s (suc e ∷ places) zero some = or_left _ _ (eq-eqb (length s - suc e) (length s - suc e) refl)
laid_there s (suc e ∷ places) (suc k) some = or_right _ _ (laid_there s places k some)

pub laid_noted : (s : Bytes) (places : List ℕ) (e : ℕ) → 0 < e
    → IsPermutation ((length s - e) ∷ laid_at s places) (laid_at s (places ++ e ∷ []))
laid_noted s [] zero some = absurd (omega (arith, some))
laid_noted s [] (suc e) some = IsPermutation-refl _
laid_noted s (zero ∷ places) e some = laid_noted s places e some
laid_noted s (suc o ∷ places) e some =
    let x = length s - e in
    let y = length s - suc o in
    let rest = laid_noted s places e some in
    let swapped : IsPermutation (x ∷ y ∷ laid_at s places) (y ∷ x ∷ laid_at s places) =
    IsPermutation-sym _ _ (IsPermutation-middle (y ∷ []) x (laid_at s places)) in
    IsPermutation-trans _ _ _ swapped (IsPermutation-cons y _ _ rest)

within_noted : (places : List ℕ) (e most : ℕ) → ((i : ℕ) → slice_index places i ≤ most) → e ≤ most → (i : ℕ)
    → slice_index (places ++ e ∷ []) i ≤ most
within_noted [] e most within low zero = low
within_noted [] e most within low (suc i) = omega arith
within_noted (p ∷ places) e most within low zero = within 0
within_noted (p ∷ places) e most within low (suc i) = within_noted places e most (λ j. within (suc j)) low i

all_some : (ns : List ℕ) → filter_map (λ n. Some n) ns ≡ ns
all_some [] = refl
all_some (n ∷ ns) = ap (λ ms. n ∷ ms) (all_some ns)

among_permuted : (q : ℕ) (ns ms : List ℕ) → IsPermutation ns ms → is_among q ns ≡ is_among q ms
among_permuted q ns ms h = ap (is_among q) (sym (all_some ns)) ∙ same_among (λ n. Some n) q ns ms h
    ∙ ap (is_among q) (all_some ms)

there_already : (v q : ℕ) (ns : List ℕ) → is_among v ns ≡ true → is_among q ns ≡ ((q == v) || is_among q ns)
there_already v q ns there = by_test (q == v) refl
  where
    by_test : (t : Bool) → (q == v) ≡ t → is_among q ns ≡ (t || is_among q ns)
    by_test true same = ap (λ n. is_among n ns) (eqb-true q v same) ∙ there
    by_test false other = refl

-- ---- a table

module _ (L : LaidSchema) (a b : TailSeen) (t zeros : ℕ) (inline : Bytes) (low : zeros < b.most) where
  -- whose vtable was laid before
  pub old_laid : (before : List ℕ) (key : ℕ) → b.bytes ≡ inline ++ (replicate zeros 0 ++ a.bytes)
      → part_size L b.bytes (table_part t) 0 ≡ length inline
      → b.most ≡ max a.most (max 4 (part_align L b.bytes (table_part t) 0))
      → StaysInFront L b.bytes (record { target = table_part t; at = 0 })
      → vtable b.bytes 0 ≡ length b.bytes - slice_index before key → 0 < slice_index before key
      → Adds L a before b before (record { target = table_part t; at = 0 } ∷ [])
  old_laid before key is size most stay at some xs made =
      let front = inline ++ (replicate zeros 0 ++ []) in
      let grown : b.bytes ≡ front ++ a.bytes = is ∙ front_joined inline a.bytes zeros in
      let x : PartAt = record { target = table_part t; at = 0 } in
      let moved : laid_at b.bytes before ≡ map (λ q. length front + q) (laid_at a.bytes before) =
      ap (λ s. laid_at s before) grown ∙ laid_further front a.bytes before made.within in
      let wide = made.widest in
      let long = ap length grown in
      let parts = length-append front a.bytes in
      let own : Piece = record { kind = whole_part; at = 0; size = length inline } in
      let lays : LaysInFront L a b before before (x ∷ []) [] = record {
        front = front;
        grown = grown;
        chunks = piece_chunk whole_part inline ∷ zeros_chunk zeros ∷ [];
        are = record { joined = refl; runs = (low, refl, tt); first = refl };
        pieces = rw size (IsPermutation-refl (own ∷ []));
        stay = All-cons (StaysInFront L b.bytes) x [] stay (All-nil (StaysInFront L b.bytes));
        within = λ i. let under = made.within i in omega (arith, under, long, parts);
        laid = rw moved (IsPermutation-refl _);
        most = omega (arith, most, wide);
      } in
      let further = map (λ q. length front + q) (tables_vtables a.bytes xs) in
      made_laid L a b before before (x ∷ []) [] lays xs made
      (λ q. (let same : is_among q (laid_at b.bytes before) ≡ is_among q further =
      ap (is_among q) moved ∙ same_further (length front) q (laid_at a.bytes before) (tables_vtables a.bytes xs)
      made.served in
      let v = vtable b.bytes 0 in
      let there : is_among v (laid_at b.bytes before) ≡ true = rw at (laid_there b.bytes before key some) in
      there_already v q (laid_at b.bytes before) there ∙ ap (λ r. (q == v) || r) same))
      (times_further (length front) (laid_at a.bytes before) made.once)

  -- whose vtable is laid in front
  pub new_laid : (before : List ℕ) (vt : Bytes) → b.bytes ≡ vt ++ (inline ++ (replicate zeros 0 ++ a.bytes))
      → 0 < length vt → num b.bytes 0 2 ≡ length vt → part_size L b.bytes (table_part t) (length vt) ≡ length inline
      → b.most ≡ max a.most (max 4 (part_align L b.bytes (table_part t) (length vt)))
      → StaysInFront L b.bytes (record { target = table_part t; at = length vt }) → vtable b.bytes (length vt) ≡ 0
      → Adds L a before b (before ++ length b.bytes ∷ [])
      (record { target = table_part t; at = length vt } ∷ [])
  new_laid before vt is some first size most stay at xs made =
      let front = vt ++ (inline ++ (replicate zeros 0 ++ [])) in
      let grown : b.bytes ≡ front ++ a.bytes = is ∙ ap (λ z. vt ++ z) (front_joined inline a.bytes zeros)
      ∙ sym (append_assoc vt (inline ++ (replicate zeros 0 ++ [])) a.bytes) in
      let after = before ++ length b.bytes ∷ [] in
      let x : PartAt = record { target = table_part t; at = length vt } in
      let wide = made.widest in
      let long = ap length grown in
      let parts = length-append front a.bytes in
      let some_bytes : 0 < length b.bytes = (let whole = ap length is in
      let two = length-append vt (inline ++ (replicate zeros 0 ++ a.bytes)) in omega (arith, whole, two, some)) in
      let some_front : 0 < length front = (let two = length-append vt (inline ++ (replicate zeros 0 ++ [])) in
      omega (arith, two, some)) in
      let further = map (λ q. length front + q) (tables_vtables a.bytes xs) in
      let moved : laid_at b.bytes before ≡ map (λ q. length front + q) (laid_at a.bytes before) =
      ap (λ s. laid_at s before) grown ∙ laid_further front a.bytes before made.within in
      let begin : length b.bytes - length b.bytes ≡ 0 = omega arith in
      let noted_here = laid_noted b.bytes before (length b.bytes) some_bytes in
      let noted : IsPermutation (0 ∷ map (λ q. length front + q) (laid_at a.bytes before)) (laid_at b.bytes after) =
      rw (begin, moved) at noted_here in
      let own : Piece = record { kind = whole_part; at = length vt; size = length inline } in
      let behind : 0 + length vt ≡ length vt = omega arith in
      let its : Piece = record { kind = whole_vtable; at = 0; size = length vt } in
      let lays : LaysInFront L a b before after (x ∷ []) (0 ∷ []) = record {
        front = front;
        grown = grown;
        chunks = piece_chunk whole_vtable vt ∷ piece_chunk whole_part inline ∷ zeros_chunk zeros ∷ [];
        are = record { joined = refl; runs = (low, refl, tt); first = refl };
        pieces = rw (size, first, behind) (IsPermutation-append_comm (its ∷ []) (own ∷ []));
        stay = All-cons (StaysInFront L b.bytes) x [] stay (All-nil (StaysInFront L b.bytes));
        within = within_noted before (length b.bytes) (length b.bytes)
            (λ i. let under = made.within i in omega (arith, under, long, parts)) (omega arith);
        laid = noted;
        most = omega (arith, most, wide);
      } in
      made_laid L a b before after (x ∷ []) (0 ∷ []) lays xs made
      (λ q. (let same : is_among q (map (λ n. length front + n) (laid_at a.bytes before)) ≡ is_among q further =
      same_further (length front) q (laid_at a.bytes before) (tables_vtables a.bytes xs) made.served in
      sym (among_permuted q _ _ noted) ∙ ap (λ r. (q == 0) || r) same
      ∙ ap (λ v. (q == v) || is_among q further) (sym at)))
      (times_with_first (length front) (laid_at a.bytes before) some_front made.once)
