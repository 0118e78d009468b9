-- A vtable that was laid, or was laid before.
use Rattle.std.proofs.Common.{◌≡◌, ℕ, zero, suc, ◌+◌, ◌-◌, ◌%◌, ◌<◌, ◌≤◌, ◌++◌, true, false, nat_lt, List, [], ◌∷◌}
use Rattle.std.proofs.Common.{length, slice_get, slice_index, Some, refl, ap, sym, ◌∙◌, arith}
use Rattle.std.proofs.Common.{length-append}
use Rattle.std.proofs.lemmas.Bool.{eq-eqb, lt-ltb}
use Rattle.std.proofs.lemmas.Bool.Decides.{nat_tests}
use Rattle.byteorder.specs.Endian.{little_bytes}
use Rattle.fb_value.specs.Num.{Bytes, num, divides}
use Rattle.fb_build.specs.Vtables.{StandsEnd}
use Rattle.fb_build.specs.Tails.{TailSeen, Grows}
use Rattle.fb_build.specs.TableBytes.{way_to}
use Rattle.fb_build.specs.Vtables.{AreLaid, TellsItsLength}
use Rattle.fb_build.proofs.tail.WhatIsLaidStaysLaid.{stands_grown}
use Rattle.fb_build.proofs.numbers.NumberReadsBack.{num_behind}
use Rattle.fb_value.proofs.numbers.BytesSumToTheirNumber.{num_first}

-- what the table's first number says then
pub new_way : (s old vt : Bytes) (place : ℕ) → s ≡ vt ++ (little_bytes 4 (length vt) ++ old) → place ≡ length old + 4
    → length vt ≤ 65534 → num s (length s - place) 4 ≡ way_to (length s - place) (length s - length s)
new_way s old vt place e is short =
    let n = little_bytes 4 (length vt) in
    let whole = ap length e in
    let parts = length-append vt (n ++ old) in
    let first : length vt + 0 ≡ length s - place = omega (arith, whole, parts, is) in
    let number : num s (length s - place) 4 ≡ length vt =
    rw (← first) (ap (λ b. num b (length vt + 0) 4) e ∙ num_behind vt (n ++ old) 0 4
    ∙ num_first 4 (length vt) old (omega (arith, short))) in
    let behind : nat_lt (length s - place) (length s - length s) ≡ false =
    low_test (length s - place) (length s - length s) (omega arith) in
    let far : (length s - place) - (length s - length s) ≡ length vt = omega (arith, whole, parts, is) in
    rw (behind, far) number
  where
    low_test : (a b : ℕ) → b ≡ 0 → nat_lt a b ≡ false
    low_test a b e = grind (arith, nat_tests)

pub old_way : (s old vt : Bytes) (place at : ℕ) → s ≡ little_bytes 4 (4294967296 - (place - at)) ++ old
    → place ≡ length old + 4 → StandsEnd old at vt → 0 < at
    → num s (length s - place) 4 ≡ way_to (length s - place) (length s - at)
old_way s old vt place at e is h some =
    let whole = ap length e in
    let first : length s - place ≡ 0 = omega (arith, whole, is) in
    let number : num s 0 4 ≡ 4294967296 - (place - at) =
    ap (λ b. num b 0 4) e ∙ num_first 4 (4294967296 - (place - at)) old (omega (arith, is, h.within)) in
    let before : nat_lt 0 (length s - at) ≡ true = lt-ltb _ _ (omega (arith, whole, h.within)) in
    let far : (length s - at) - 0 ≡ place - at = omega (arith, whole, is) in
    rw (first, before, far) number

pub shared_grown : (known : List Bytes) (places : List ℕ) (a b : TailSeen) → Grows a b → AreLaid known places a.bytes
    → AreLaid known places b.bytes
shared_grown known places a b g h = record {
  each = h.each;
  stand = λ i vt is. let there = h.stand i vt is in
      (there.0, stands_grown a b (slice_index places i) vt g there.1, there.2, there.3);
}

-- ---- one more

last_index : (places : List ℕ) (e i : ℕ) → i ≡ length places → slice_index (places ++ e ∷ []) i ≡ e
last_index [] e zero is = refl
last_index [] e (suc i) is = absurd (omega (arith, is))
last_index (p ∷ places) e zero is = absurd (omega (arith, is))
last_index (p ∷ places) e (suc i) is = last_index places e i (omega (arith, is))

pub last_place : (places : List ℕ) (e : ℕ) → slice_index (places ++ e ∷ []) (length places) ≡ e
last_place places e = last_index places e (length places) refl

pub last_key : (known : List Bytes) (vt : Bytes) → slice_get (known ++ vt ∷ []) (length known) ≡ Some vt
last_key [] vt = refl
last_key (x ∷ known) vt = last_key known vt

-- of one more vtable, each is the last or was there
data IsOldOrLast (known : List Bytes) (vt : Bytes) (places : List ℕ) (e i : ℕ) (other : Bytes) : Type 0 where
  was_there : slice_get known i ≡ Some other → slice_index (places ++ e ∷ []) i ≡ slice_index places i
      → IsOldOrLast known vt places e i other
  is_last : i ≡ length known → other ≡ vt → slice_index (places ++ e ∷ []) i ≡ e
      → IsOldOrLast known vt places e i other

old_or_last : (known : List Bytes) (vt : Bytes) (places : List ℕ) (e i : ℕ) (other : Bytes)
    → length known ≡ length places → slice_get (known ++ vt ∷ []) i ≡ Some other
    → IsOldOrLast known vt places e i other
old_or_last [] vt [] e zero other long at = let same : other ≡ vt = cc in is_last refl same refl
old_or_last [] vt [] e (suc i) other long at = cc
old_or_last [] vt (p ∷ places) e i other long at = absurd (omega (arith, long))
old_or_last (x ∷ known) vt [] e i other long at = absurd (omega (arith, long))
old_or_last (x ∷ known) vt (p ∷ places) e zero other long at = was_there at refl
old_or_last (x ∷ known) vt (p ∷ places) e (suc i) other long at =
    elim (old_or_last known vt places e i other (omega (arith, long)) at) [
      | was_there here place ↦ was_there here place
      | is_last last same place ↦ is_last (ap suc last) same place
    ]

pub shared_more : (known : List Bytes) (places : List ℕ) (s vt : Bytes) (e : ℕ) → 0 < e → StandsEnd s e vt
    → divides 2 e ≡ true → TellsItsLength vt → AreLaid known places s
    → AreLaid (known ++ vt ∷ []) (places ++ e ∷ []) s
shared_more known places s vt e some stands even told h = record {
  each = omega (arith, h.each, length-append known (vt ∷ []), length-append places (e ∷ []));
  stand = λ i other at. elim (old_or_last known vt places e i other h.each at) [
    | was_there here place ↦ rw place (h.stand i other here)
    | is_last last same place ↦ rw (place, same) (some, stands, even, told)
  ];
}

pub new_stands : (s old vt : Bytes) (e : ℕ) → s ≡ vt ++ (little_bytes 4 (length vt) ++ old) → e ≡ length s
    → length old % 4 ≡ 0 → length vt % 2 ≡ 0 → StandsEnd s e vt × (divides 2 e ≡ true)
new_stands s old vt e is long four even =
    let n = little_bytes 4 (length vt) in
    let whole = ap length is in
    let parts = length-append vt (n ++ old) in (
      record { within = omega (arith, long); behind = n ++ old; before = []; split = is; at = sym whole ∙ sym long },
      eq-eqb _ _ (omega (arith, long, whole, parts, four, even)),
    )
