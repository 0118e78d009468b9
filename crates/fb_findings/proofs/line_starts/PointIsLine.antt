-- Where an offset parts the starts of lines, there are as many of them as line feeds before the offset.
use Rattle.std.proofs.Common.{ℕ, zero, suc, ◌≡◌, ◌+◌, ◌<◌, ◌≤◌, Bool, true, false, cond, List, [], ◌∷◌, length, take}
use Rattle.std.proofs.Common.{count_by, get_or}
use Rattle.std.proofs.Common.{refl, ◌∙◌, arith, leb, nat_eq}
use Rattle.std.proofs.lemmas.Bool.{leb-true, leb-false}
use Rattle.std.proofs.lemmas.Bool.Decides.{nat_tests}
use Rattle.std.proofs.lemmas.List.Sums.{sum_by-cons, sum_by-take-drop}
use Rattle.std.specs.List.{starts_with}
use lib.Pointwise.{pointwise}
use Rattle.std.specs.List.Sorted.{IsNonDecreasingBy, IsPartitionPoint}
use Rattle.fb_findings.specs.Positions.{is_feed, starts_from, line_starts, before, line_at, mark_len}
use Rattle.fb_findings.specs.Positions.{byte_order_mark}

-- each of some starts is behind an offset
abbrev Above : ℕ → List ℕ → Type 0
Above at starts = (k d : ℕ) → k < length starts → at < get_or starts k d

above_next : (b : Bool) (at : ℕ) (starts : List ℕ) → Above (at + 1) starts
    → Above at (cond b ((at + 1) ∷ starts) starts)
above_next true at starts h zero d under = omega arith
above_next true at starts h (suc k) d under =
    let more = h k d (omega (arith, under)) in omega (arith, more)
above_next false at starts h k d under = let more = h k d under in omega (arith, more)

above : (text : List ℕ) (at : ℕ) → Above at (starts_from at text)
above [] at k d under = absurd (omega (arith, under))
above (byte ∷ bytes) at k d under =
    above_next (is_feed byte) at (starts_from (at + 1) bytes) (above bytes (at + 1)) k d under

rising_next : (b : Bool) (at : ℕ) (starts : List ℕ) → Above (at + 1) starts → IsNonDecreasingBy (λ start. start) starts
    → IsNonDecreasingBy (λ start. start) (cond b ((at + 1) ∷ starts) starts)
rising_next false at starts high h i j d low within = h i j d low within
rising_next true at starts high h zero zero d low within = omega arith
rising_next true at starts high h zero (suc j) d low within =
    let more = high j d (omega (arith, within)) in omega (arith, more)
rising_next true at starts high h (suc i) zero d low within = absurd (omega (arith, low))
rising_next true at starts high h (suc i) (suc j) d low within =
    h i j d (omega (arith, low)) (omega (arith, within))

rising : (text : List ℕ) (at : ℕ) → IsNonDecreasingBy (λ start. start) (starts_from at text)
rising [] at i j d low within = absurd (omega (arith, within))
rising (byte ∷ bytes) at i j d low within =
    rising_next (is_feed byte) at (starts_from (at + 1) bytes) (above bytes (at + 1))
    (rising bytes (at + 1)) i j d low within

-- the starts before the i-th are at an offset or before it, and the others aren't
record Parts (offset : ℕ) (starts : List ℕ) (i : ℕ) : Type 0 where
  pub front : (k d : ℕ) → k < i → get_or starts k d ≤ offset
  pub back : (k d : ℕ) → i ≤ k → k < length starts → offset < get_or starts k d

next_point : (b : Bool) (at offset i n : ℕ) (starts : List ℕ)
    → ((j : ℕ) → j ≤ length starts → Parts (at + 1 + offset) starts j → n ≡ j)
    → i ≤ length (cond b ((at + 1) ∷ starts) starts) → Parts (at + suc offset) (cond b ((at + 1) ∷ starts) starts) i
    → cond b 1 0 + n ≡ i
next_point false at offset i n starts h within parts =
    let rest = h i within (record {
      front = λ k d low. let more = parts.front k d low in omega (arith, more);
      back = λ k d high under. let more = parts.back k d high under in omega (arith, more);
    }) in omega (arith, rest)
next_point true at offset zero n starts h within parts =
    let first = parts.back 0 0 (omega arith) (omega arith) in absurd (omega (arith, first))
next_point true at offset (suc i) n starts h within parts =
    let rest = h i (omega (arith, within)) (record {
      front = λ k d low. let more = parts.front (suc k) d (omega (arith, low)) in omega (arith, more);
      back = λ k d high under. let more = parts.back (suc k) d (omega (arith, high)) (omega (arith, under)) in
          omega (arith, more);
    }) in omega (arith, rest)

feeds : (text : List ℕ) (at offset i : ℕ) → i ≤ length (starts_from at text)
    → Parts (at + offset) (starts_from at text) i
    → count_by is_feed (take offset text) ≡ i
feeds [] at zero i within parts = omega (arith, within)
feeds [] at (suc offset) i within parts = omega (arith, within)
feeds (byte ∷ bytes) at zero zero within parts = refl
feeds (byte ∷ bytes) at zero (suc i) within parts =
    let low = parts.front 0 0 (omega arith) in
    let high = above (byte ∷ bytes) at 0 0 (omega (arith, within)) in absurd (omega (arith, low, high))
feeds (byte ∷ bytes) at (suc offset) i within parts =
    sum_by-cons (λ b. cond (is_feed b) 1 0) byte (take offset bytes)
    ∙ next_point (is_feed byte) at offset i (count_by is_feed (take offset bytes)) (starts_from (at + 1) bytes)
    (λ j under point. feeds bytes (at + 1) offset j under point) within parts

-- a byte order mark has no line feed
short_mark : (text : List ℕ) (b : Bool) (offset : ℕ) → pointwise nat_eq byte_order_mark (take 3 text) ≡ b
    → count_by is_feed (take (cond b 3 0) (take offset text)) ≡ 0
short_mark text false offset e = refl
short_mark (x ∷ y ∷ z ∷ text) true zero e = refl
short_mark (x ∷ y ∷ z ∷ text) true (suc zero) e = grind (arith, nat_tests)
short_mark (x ∷ y ∷ z ∷ text) true (suc (suc zero)) e = grind (arith, nat_tests)
short_mark (x ∷ y ∷ z ∷ text) true (suc (suc (suc offset))) e = grind (arith, nat_tests)
short_mark [] true offset e = cc
short_mark (x ∷ []) true offset e = grind (arith, nat_tests)
short_mark (x ∷ y ∷ []) true offset e = grind (arith, nat_tests)

mark_has_none : (text : List ℕ) (offset : ℕ) → count_by is_feed (take (mark_len text) (take offset text)) ≡ 0
mark_has_none text offset = short_mark text (starts_with nat_eq text byte_order_mark) offset refl

before_is : (text : List ℕ) (offset : ℕ) → count_by is_feed (before text offset) ≡ count_by is_feed (take offset text)
before_is text offset =
    let both = sum_by-take-drop (λ b. cond (is_feed b) 1 0) (take offset text) (mark_len text) in
    let none = mark_has_none text offset in omega (arith, both, none)

pub line_of_point : (text : List ℕ) (offset i : ℕ) (starts : List ℕ) → starts ≡ line_starts text → i ≤ length starts
    → (IsNonDecreasingBy (λ start. start) starts
    → IsPartitionPoint (λ start. leb start offset ≡ true) (λ start. leb start offset ≡ false) starts i)
    → 1 + i ≡ line_at text offset
line_of_point text offset i starts same within parts =
    let rises : IsNonDecreasingBy (λ start. start) starts =
    rw same (rising text 0) in
    let point = parts rises in
    let seen : Parts (0 + offset) starts i = record {
      front = λ k d low. let more = leb-true (get_or starts k d) offset (point.0 k d (omega arith) low) in
          omega (arith, more);
      back = λ k d high under. let more = leb-false (get_or starts k d) offset (point.1 k d high under) in
          omega (arith, more);
    } in
    let there = feeds text 0 offset i (rw (← same) within)
    (rw (← same) seen) in
    let equal = before_is text offset in omega (arith, there, equal)
