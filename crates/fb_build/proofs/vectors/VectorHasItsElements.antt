-- A vector that was laid.
use Rattle.std.proofs.Common.{◌≡◌, ℕ, zero, suc, ◌+◌, ◌-◌, ◌*◌, ◌^◌, ◌<◌, ◌≤◌, ◌++◌, ◌==◌, true, ◌||◌}
use Rattle.std.proofs.Common.{nat_lt, max, List, [], ◌∷◌, length, drop, slice_get, slice_index, Some, refl}
use Rattle.std.proofs.Common.{ap, sym, ◌∙◌, subst, arith, length-append}
use Rattle.std.proofs.lemmas.Bool.{le-leb, and_from, and_parts}
use Rattle.std.proofs.lemmas.List.{get_or-append-add}
use Rattle.byteorder.specs.Endian.{little_bytes}
use Rattle.byteorder.specs.Numbers.{length-bytes_low_first}
use Rattle.fb_layout.specs.Laid.{LaidSchema, StoredKind, scalar_kind, struct_kind, table_kind}
use Rattle.fb_layout.specs.Laid.{text_kind, size_of, align_of, one_of}
use Rattle.fb_value.specs.Datum.{Datum, a_vector, Parts, no_parts, more_parts, count}
use Rattle.fb_value.specs.Num.{Bytes, num, divides}
use Rattle.fb_value.specs.Places.{part_place, ref_place, text_part, vector_part, target_of}
use Rattle.fb_value.specs.Rules.{Aligned, fault_by, KeepsBy}
use Rattle.fb_value.specs.Lies.{ElementBy, LiesBy, LiesItemsBy}
use Rattle.fb_value.specs.View.{parts_in}
use Rattle.fb_value.specs.EachTable.{EachElement, EachItem, EachTable, EachTableAt, IsOldTable}
use Rattle.fb_value.specs.Tails.{from_end}
use Rattle.fb_layout.specs.Sizes.{IsAlignment}
use Rattle.fb_build.specs.Tails.{TailSeen, Grows, LaidInTail}
use Rattle.fb_build.specs.Fields.{IsElement, sort_for}
use Rattle.fb_build.specs.Items.{ItemsEnd}
use Rattle.fb_tape.specs.InlineBytes.{IsTightInline, EachInlineElement, EachInline, EachInlineItem}
use Rattle.fb_tape.specs.InlineBytes.{EachInlineAt}
use Rattle.fb_build.specs.CoveredTails.{IsTightInTail}
use Rattle.fb_build.proofs.covered.TightStructStaysTightFurtherOn.{items_moved as inline_moved}
use Rattle.fb_build.proofs.covered.TightTableStaysTightFurtherOn.{tight_further_on}
use Rattle.fb_value.proofs.rules.RulesHoldOneByOne.{hold, no_rules}
use Rattle.fb_value.proofs.tails.SameBytesHoldTheSameFurtherOn.{items_lie, each_items}
use Rattle.fb_value.proofs.tails.TailsAreKeptInFront.{through, from_other_end}
use Rattle.fb_build.proofs.tail.WhatIsLaidStaysLaid.{left_divides, right_divides}
use Rattle.fb_build.proofs.tail.MultiplesAdd.{times_divides}
use Rattle.fb_build.proofs.fields.AlignmentDividesTheSize.{element_simple, simple_aligned, simple_multiple, simple_some}
use Rattle.fb_build.proofs.fields.FieldHasItsValue.{more_divides}
use Rattle.std.proofs.Math.Bool.{or-true}
use Rattle.fb_value.proofs.numbers.BytesSumToTheirNumber.{num_first}
use Rattle.fb_layout.proofs.sizes.AlignmentsArePowersOfTwo.{max_aligned, four_aligned}

-- the elements of a vector take some room, and begin at a multiple of 4 or more
pub record IsPadded (L : LaidSchema) (kind : StoredKind) : Type 0 where
  pub some : 0 < size_of L kind
  pub least : 4 ≤ max 4 (align_of L kind)
  pub power : IsAlignment (max 4 (align_of L kind))
  pub four : divides 4 (max 4 (align_of L kind)) ≡ true
  pub own : divides (align_of L kind) (max 4 (align_of L kind)) ≡ true
  pub size : divides (align_of L kind) (size_of L kind) ≡ true

pub element_padded : (L : LaidSchema) (kind : StoredKind) → IsElement L kind → IsPadded L kind
element_padded L kind h =
    let simple = element_simple L kind h in
    let aligned : IsAlignment (align_of L kind) = simple_aligned L (one_of kind) simple in
    record {
      some = simple_some L (one_of kind) simple;
      least = omega arith;
      power = max_aligned 4 (align_of L kind) four_aligned aligned;
      four = left_divides 4 (align_of L kind) four_aligned aligned;
      own = right_divides 4 (align_of L kind) four_aligned aligned;
      size = simple_multiple L (one_of kind) simple;
    }

-- ---- elements in front of others

items_moved : (L : LaidSchema) (m n : ℕ) (front s : Bytes) (kind : StoredKind) (ds : Parts) → divides m n ≡ true
    → LiesItemsBy (from_end s m) L s kind 0 ds
    → LiesItemsBy (from_end (front ++ s) n) L (front ++ s) kind (length front + 0) ds
items_moved L m n front s kind ds mn h =
    let whole : length (front ++ s) ≡ length front + length s = length-append front s in
    items_lie L (from_end s m) (from_end (front ++ s) n) s (front ++ s) (length front) (omega (arith, whole))
    (λ i. get_or-append-add front s i 0) (λ a p low is. same a p whole is) kind 0 ds h
  where
    same : (a p : ℕ) → length (front ++ s) ≡ length front + length s → from_end s m a p ≡ true
        → from_end (front ++ s) n a (length front + p) ≡ true
    same a p whole is =
        let parts = and_parts _ _ is in
        let back : length (front ++ s) - (length front + p) ≡ length s - p = omega (arith, whole) in
        and_from _ _ (rw back parts.0) (through a m n parts.1 mn)

old_items_moved : (L : LaidSchema) (m : ℕ) (front s : Bytes) (kind : StoredKind) (ds : Parts) → ItemsEnd L m s kind ds
    → EachItem L (front ++ s) (λ t p. IsOldTable L (front ++ s) t p) kind (length front + 0) ds
old_items_moved L m front s kind ds h =
    let whole : length (front ++ s) ≡ length front + length s = length-append front s in
    each_items L (from_end s m) (λ a p. true) s (front ++ s) (length front) (omega (arith, whole))
    (λ i. get_or-append-add front s i 0) (λ a p low is. refl)
    (λ t p. IsOldTable L s t p) (λ t p. IsOldTable L (front ++ s) t p) (λ t p slots known j out. slots j ∙ known j out)
    kind 0 ds h.lie h.old

tight_items_moved : (L : LaidSchema) (m : ℕ) (front s : Bytes) (kind : StoredKind) (ds : Parts) → ItemsEnd L m s kind ds
    → EachItem L (front ++ s) (λ t p. IsTightInTail L (front ++ s) t p) kind (length front + 0) ds
tight_items_moved L m front s kind ds h =
    let whole : length (front ++ s) ≡ length front + length s = length-append front s in
    let same : (i : ℕ) → slice_index (front ++ s) (length front + i) ≡ slice_index s i =
    λ i. get_or-append-add front s i 0 in
    each_items L (from_end s m) (λ a p. true) s (front ++ s) (length front) (omega (arith, whole)) same
    (λ a p low is. refl)
    (λ t p. IsTightInTail L s t p) (λ t p. IsTightInTail L (front ++ s) t p)
    (λ t p slots known. tight_further_on L s (front ++ s) (length front) same t p slots known) kind 0 ds h.lie
    h.tight

inline_items_moved : (L : LaidSchema) (m : ℕ) (front s : Bytes) (kind : StoredKind) (ds : Parts)
    → ItemsEnd L m s kind ds → EachInlineItem L (front ++ s) (IsTightInline L (front ++ s)) kind (length front + 0) ds
inline_items_moved L m front s kind ds h =
    inline_moved L (from_end s m) s (front ++ s) (length front) (λ i. get_or-append-add front s i 0) kind 0 ds h.lie
    h.inline

-- behind what was laid in front of them
pub items_grown : (L : LaidSchema) (a b : TailSeen) (k : ℕ) (kind : StoredKind) (ds : Parts) → Grows a b
    → length b.bytes ≡ length a.bytes + k → ItemsEnd L a.most a.bytes kind ds
    → LiesItemsBy (from_end b.bytes b.most) L b.bytes kind (0 + k) ds
    × EachItem L b.bytes (λ t p. IsOldTable L b.bytes t p) kind (0 + k) ds
    × EachItem L b.bytes (λ t p. IsTightInTail L b.bytes t p) kind (0 + k) ds
    × EachInlineItem L b.bytes (IsTightInline L b.bytes) kind (0 + k) ds
items_grown L a b k kind ds g long h =
    let parts = length-append g.front a.bytes in
    let whole = ap length g.grown in
    let at : length g.front + 0 ≡ 0 + k = omega (arith, parts, whole, long) in
    let lie = rw at at (items_moved L a.most b.most g.front a.bytes kind ds g.multiple h.lie) in
    let old = rw at at (old_items_moved L a.most g.front a.bytes kind ds h) in
    let inline = rw at at (inline_items_moved L a.most g.front a.bytes kind ds h) in
    let tight = rw at at (tight_items_moved L a.most g.front a.bytes kind ds h) in
    (rw g.grown lie, rw g.grown old, rw g.grown tight, rw g.grown inline)

element_by : (L : LaidSchema) (m : ℕ) (s : Bytes) (kind : StoredKind) (d : Datum) → IsElement L kind
    → LaidInTail L m s (sort_for (one_of kind) d) (length s) d
    → ElementBy (from_end s m) L s kind 0 (target_of kind) d (λ sort q. LiesBy (from_end s m) L s sort q d)
element_by L m s (scalar_kind b) d el h = let first : length s - length s ≡ 0 = omega arith in
    (rw first at h.lies.lies).1
element_by L m s text_kind d el h = let first : length s - length s ≡ 0 = omega arith in rw first at h.lies.lies
element_by L m s (table_kind t) d el h = let first : length s - length s ≡ 0 = omega arith in rw first at h.lies.lies
element_by L m s (struct_kind t) d el h = let first : length s - length s ≡ 0 = omega arith in
    (rw first at h.lies.lies).1
element_by L m s _ d el h = absurd el

element_old : (L : LaidSchema) (m : ℕ) (s : Bytes) (kind : StoredKind) (d : Datum) → IsElement L kind
    → LaidInTail L m s (sort_for (one_of kind) d) (length s) d
    → EachElement s (target_of kind) 0 (λ sort q. EachTable L s (λ t p. IsOldTable L s t p) sort q d)
element_old L m s (scalar_kind b) d el h = tt
element_old L m s text_kind d el h = let first : length s - length s ≡ 0 = omega arith in
    subst (λ (q : ℕ). EachTableAt L s (λ t p. IsOldTable L s t p) (ref_place text_part) q d) first h.old
element_old L m s (table_kind t) d el h = let first : length s - length s ≡ 0 = omega arith in
    rw first at h.old
element_old L m s (struct_kind t) d el h = tt
element_old L m s _ d el h = absurd el

element_tight : (L : LaidSchema) (m : ℕ) (s : Bytes) (kind : StoredKind) (d : Datum) → IsElement L kind
    → LaidInTail L m s (sort_for (one_of kind) d) (length s) d
    → EachElement s (target_of kind) 0 (λ sort q. EachTable L s (λ t p. IsTightInTail L s t p) sort q d)
element_tight L m s (scalar_kind b) d el h = tt
element_tight L m s text_kind d el h = let first : length s - length s ≡ 0 = omega arith in
    subst (λ (q : ℕ). EachTableAt L s (λ t p. IsTightInTail L s t p) (ref_place text_part) q d) first h.tight
element_tight L m s (table_kind t) d el h = let first : length s - length s ≡ 0 = omega arith in
    rw (← first) h.tight
element_tight L m s (struct_kind t) d el h = tt
element_tight L m s _ d el h = absurd el

element_inline : (L : LaidSchema) (m : ℕ) (s : Bytes) (kind : StoredKind) (d : Datum) → IsElement L kind
    → LaidInTail L m s (sort_for (one_of kind) d) (length s) d
    → EachInlineElement L s (IsTightInline L s) kind (target_of kind) 0 d
    (λ X q. EachInline L s (IsTightInline L s) X q d)
element_inline L m s (scalar_kind b) d el h =
    let first : length s - length s ≡ 0 = omega arith in
    rw (← first) h.inline
element_inline L m s text_kind d el h = let first : length s - length s ≡ 0 = omega arith in
    subst (λ (q : ℕ). EachInlineAt L s (IsTightInline L s) (ref_place text_part) q d) first h.inline
element_inline L m s (table_kind t) d el h = let first : length s - length s ≡ 0 = omega arith in
    rw (← first) h.inline
element_inline L m s (struct_kind t) d el h =
    let first : length s - length s ≡ 0 = omega arith in
    rw (← first) h.inline
element_inline L m s _ d el h = absurd el

pub one_more : (L : LaidSchema) (a b : TailSeen) (kind : StoredKind) (d : Datum) (ds : Parts) → IsElement L kind
    → Grows a b → length b.bytes ≡ length a.bytes + size_of L kind
    → LaidInTail L b.most b.bytes (sort_for (one_of kind) d) (length b.bytes) d
    → ItemsEnd L a.most a.bytes kind ds → ItemsEnd L b.most b.bytes kind (more_parts d ds)
one_more L a b kind d ds el g long lies h =
    let rest = items_grown L a b (size_of L kind) kind ds g long h in
    record {
      lie = (element_by L b.most b.bytes kind d el lies, rest.0);
      old = (element_old L b.most b.bytes kind d el lies, rest.1);
      tight = (element_tight L b.most b.bytes kind d el lies, rest.2);
      inline = (element_inline L b.most b.bytes kind d el lies, rest.3);
    }

-- ---- the whole vector

pub without_items : (a z n c : ℕ) → divides a z ≡ true → divides a (c + n * z) ≡ true → divides a c ≡ true
without_items a z n c size h =
    let rest : (c + n * z) - c ≡ n * z = omega arith in
    from_other_end a (c + n * z) c (omega arith) h (rw rest (times_divides a n z size))

vector_keeps : (L : LaidSchema) (al : Aligned) (b : Bytes) (kind : StoredKind) (p : ℕ) → al 4 p ≡ true
    → p + 4 ≤ length b → (p + 4) + num b p 4 * size_of L kind ≤ length b → al (align_of L kind) (p + 4) ≡ true
    → KeepsBy al L b (part_place (vector_part kind)) p
unfolding fault_by
vector_keeps L al b kind p front within ends elements =
    let any : ((nat_lt (length b) (p + 4) || (num b p 4 == 0)) || al (align_of L kind) (p + 4)) ≡ true =
    rw elements (or-true (nat_lt (length b) (p + 4) || (num b p 4 == 0))) in
    hold _ _ _ (and_from _ _ front any) (hold _ _ _ (and_from _ _ (le-leb _ _ within) (le-leb _ _ ends)) no_rules)

pub vector_end : (L : LaidSchema) (m n : ℕ) (a b : TailSeen) (kind : StoredKind) (ds : Parts) → IsElement L kind
    → Grows a b → b.bytes ≡ little_bytes 4 n ++ a.bytes → n < 256 ^ 4 → count ds ≡ n
    → divides (max 4 (align_of L kind)) (length a.bytes) ≡ true → divides (max 4 (align_of L kind)) b.most ≡ true
    → divides (align_of L kind) (max 4 (align_of L kind)) ≡ true → n * size_of L kind ≤ length a.bytes
    → ItemsEnd L a.most a.bytes kind ds
    → LaidInTail L b.most b.bytes (part_place (vector_part kind)) (length b.bytes) (a_vector ds)
vector_end L m n a b kind ds el g e short counted whole wide own room items =
    let s = b.bytes in
    let padded = element_padded L kind el in
    let first : length s - length s ≡ 0 = omega arith in
    let all : length s - 0 ≡ length s = omega arith in
    let long : length s ≡ length a.bytes + 4 =
    (let w = ap length e in let parts = length-append (little_bytes 4 n) a.bytes in
    let size = length-bytes_low_first 0 4 n in omega (arith, w, parts, size)) in
    let behind : length s - (0 + 4) ≡ length a.bytes = omega (arith, long) in
    let number : num s 0 4 ≡ n = ap (λ x. num x 0 4) e ∙ num_first 4 n a.bytes short in
    let four : divides 4 (length s) ≡ true =
    more_divides 4 (length a.bytes) (length s) (through 4 _ _ padded.four whole) long in
    let front : from_end s b.most 4 0 ≡ true = and_from _ _ (rw all four) (through 4 _ _ padded.four wide) in
    let elements : from_end s b.most (align_of L kind) (0 + 4) ≡ true =
    and_from _ _ (rw behind (through _ _ _ own whole)) (through _ _ _ own wide) in
    let within : 0 + 4 ≤ length s = omega (arith, long) in
    let ends : (0 + 4) + num s 0 4 * size_of L kind ≤ length s =
    (let same : num s 0 4 * size_of L kind ≡ n * size_of L kind = ap (λ i. i * size_of L kind) number in
    omega (arith, same, room, long)) in
    let keeps : KeepsBy (from_end s b.most) L s (part_place (vector_part kind)) 0 =
    vector_keeps L (from_end s b.most) s kind 0 front within ends elements in
    let laid = items_grown L a b 4 kind ds g long items in
    record {
      lies = record { within = omega arith; lies = rw first (keeps, counted ∙ sym number, laid.0) };
      old = rw first laid.1;
      tight = rw first laid.2;
      inline = rw first laid.3;
    }

-- ---- elements from the last to the first

data_next : (ds : List Datum) (i : ℕ) (d : Datum) → slice_get ds i ≡ Some d
    → parts_in (drop i ds) ≡ more_parts d (parts_in (drop (suc i) ds))
data_next [] i d is = cc
data_next (x ∷ ds) zero d is = let same : x ≡ d = cc in rw same refl
data_next (x ∷ ds) (suc i) d is = data_next ds i d is

pub parts_back : (ds : List Datum) (n k : ℕ) (d : Datum) → k < n → slice_get ds (n - 1 - k) ≡ Some d
    → parts_in (drop (n - (k + 1)) ds) ≡ more_parts d (parts_in (drop (n - k) ds))
parts_back ds n k d low is =
    let a : n - (k + 1) ≡ n - 1 - k = omega arith in
    let b : suc (n - 1 - k) ≡ n - k = omega (arith, low) in
    rw a (rw (← b) (data_next ds (n - 1 - k) d is))

pub parts_none : (ds : List Datum) (n : ℕ) → length ds ≤ n → parts_in (drop n ds) ≡ no_parts
parts_none [] zero h = refl
parts_none [] (suc n) h = refl
parts_none (x ∷ ds) zero h = absurd (omega (arith, h))
parts_none (x ∷ ds) (suc n) h = parts_none ds n (omega (arith, h))
