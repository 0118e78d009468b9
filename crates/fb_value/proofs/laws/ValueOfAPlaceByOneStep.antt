-- The value at a place, one step at a time.
use Rattle.std.proofs.Common.{◌≡◌, ℕ, zero, suc, ◌+◌, ◌-◌, ◌*◌, ◌<◌, ◌≤◌, max, Bool, true, false, nat_lt, List, [], ◌∷◌}
use Rattle.std.proofs.Common.{length, Option, None, Some, slice_get, refl, sym, ap, ◌∙◌, arith}
use Rattle.std.proofs.lemmas.Bool.Decides.{nat_tests}
use Rattle.std.proofs.lemmas.Option.{slice_get_past}
use Rattle.fb_layout.specs.Laid.{LaidSchema, Slot, StoredKind, scalar_kind, struct_kind, table_kind, union_kind}
use Rattle.fb_layout.specs.Laid.{code_kind, text_kind, slots_of, parts_of, struct_at, size_of}
use Rattle.fb_layout.specs.WellMade.{IsWellMade}
use Rattle.fb_value.specs.declared.faults.ReadFault.{ReadFault}
use Rattle.fb_value.specs.Datum.{Datum, SlotEntries, a_struct, a_vector, a_table, a_member}
use Rattle.fb_value.specs.Num.{Bytes, num}
use Rattle.fb_value.specs.Places.{Target, table_part, member_part, text_part, vector_part, Sort, ref_place, part_place}
use Rattle.fb_value.specs.Places.{inline_place, Place, named_slots, target_of}
use Rattle.fb_value.specs.Rules.{Keeps, fault_at, fault_by}
use Rattle.fb_value.specs.Reads.{unless, ◌>>=◌, parts_at, inline_at, through, element_at, items_at, entry_at, slots_at}
use Rattle.fb_value.specs.Reads.{datum_at, value_levels, value_at, inline_value, inline_step, value_step}
use Rattle.fb_value.specs.Lies.{Lies}
use Rattle.fb_value.specs.Laws.{ValueOfPlace, ValueWhereLies}
use Rattle.fb_value.proofs.laws.ValueHasLevels.{height}
use Rattle.fb_value.proofs.laws.ComputedValueLies.{sound}
use Rattle.fb_value.proofs.held.LyingValueIsComputed.{complete}
use Rattle.fb_value.proofs.types.StoredKindsAreResolved.{LowerParts, resolved, IsGood}
use Rattle.fb_value.proofs.reached.StepsLeadForward.{steps_up}
use Rattle.fb_value.proofs.laws.ValueLiesWhereAllKeep.{part_within, slots_good}

-- What is read only where no rule fails is the same where it is the same there.
unless_same : {A : Type 0} (f : Option ReadFault) (r s : Option A) → (f ≡ None → r ≡ s) → unless f r ≡ unless f s
unless_same None r s known = known refl
unless_same (Some f) r s known = refl

-- fields that are read alike
parts_alike : (read other : StoredKind → ℕ → Option Datum) → ((k : StoredKind) (q : ℕ) → read k q ≡ other k q)
    → (ks : List StoredKind) (os : List ℕ) (p : ℕ) → parts_at read ks os p ≡ parts_at other ks os p
unfolding parts_at
parts_alike read other same [] os p = refl
parts_alike read other same (k ∷ ks) [] p = refl
parts_alike read other same (k ∷ ks) (o ∷ os) p = rw (same k (p + o), parts_alike read other same ks os p) refl

module _ (L : LaidSchema) (b : Bytes) (made : IsWellMade L) where
  -- a struct's parts, once the lower structs are the same
  parts_same : (m n s : ℕ) → 1 ≤ m → 1 ≤ n
      → ((t q : ℕ) → t < s → inline_at m L b (struct_kind t) q ≡ inline_at n L b (struct_kind t) q)
      → (ks : List StoredKind) (os : List ℕ) (p : ℕ) → LowerParts s ks os
      → parts_at (λ k q. inline_at m L b k q) ks os p ≡ parts_at (λ k q. inline_at n L b k q) ks os p
  unfolding parts_at inline_at
  parts_same zero n s h i known ks os p lows = absurd (omega arith)
  parts_same (suc m) zero s h i known ks os p lows = absurd (omega arith)
  parts_same (suc m) (suc n) s h i known [] os p lows = refl
  parts_same (suc m) (suc n) s h i known (scalar_kind base ∷ ks) (o ∷ os) p lows =
      rw (parts_same (suc m) (suc n) s h i known ks os p lows) refl
  parts_same (suc m) (suc n) s h i known (struct_kind t ∷ ks) (o ∷ os) p lows =
      rw (known t (p + o) lows.0, parts_same (suc m) (suc n) s h i known ks os p lows.1) refl
  parts_same (suc m) (suc n) s h i known _ _ p lows = absurd lows

  struct_same : (m n s p : ℕ) → s + 2 ≤ m → s + 2 ≤ n
      → inline_at m L b (struct_kind s) p ≡ inline_at n L b (struct_kind s) p
  unfolding inline_at
  struct_same zero n s p h i = absurd (omega arith)
  struct_same (suc m) zero s p h i = absurd (omega arith)
  struct_same (suc m) (suc n) s p h i =
      ap (λ o. o >>= λ ds. Some (a_struct ds))
      (parts_same m n s (omega arith) (omega arith) (λ t q less. struct_same m n t q (omega arith) (omega arith))
      (parts_of L s) (struct_at L s).offsets p ((resolved L made).lower s))

  -- past the types there are no parts
  no_struct_parts : (s : ℕ) → length L.schema.types ≤ s → parts_of L s ≡ []
  no_struct_parts s past = rw (slice_get_past L.schema.types s past) refl

  -- any struct, within one level more than there are types
  any_struct : (m n s p : ℕ) (c : Bool) → nat_lt s (length L.schema.types) ≡ c → length L.schema.types + 1 ≤ m
      → length L.schema.types + 1 ≤ n → inline_at m L b (struct_kind s) p ≡ inline_at n L b (struct_kind s) p
  unfolding inline_at parts_at
  any_struct m n s p true e h i = let less : s < length L.schema.types = grind (arith, nat_tests) in
      struct_same m n s p (omega arith) (omega arith)
  any_struct zero n s p false e h i = absurd (omega arith)
  any_struct (suc m) zero s p false e h i = absurd (omega arith)
  any_struct (suc m) (suc n) s p false e h i = let none = no_struct_parts s (grind (arith, nat_tests)) in rw none refl

  inline_same : (m n : ℕ) (kind : StoredKind) (p : ℕ) → length L.schema.types + 1 ≤ m → length L.schema.types + 1 ≤ n
      → inline_at m L b kind p ≡ inline_at n L b kind p
  unfolding inline_at
  inline_same zero n kind p h i = absurd (omega arith)
  inline_same (suc m) zero kind p h i = absurd (omega arith)
  inline_same (suc m) (suc n) (struct_kind s) p h i = any_struct (suc m) (suc n) s p _ refl h i
  inline_same (suc m) (suc n) _ p h i = refl

  -- within more levels than there are types it is what is read without levels
  inline_is_value : (m : ℕ) (kind : StoredKind) (p : ℕ) → length L.schema.types + 1 ≤ m
      → inline_at m L b kind p ≡ inline_value L b kind p
  unfolding inline_value
  inline_is_value m kind p h = inline_same m (length L.schema.types + 2) kind p h (omega arith)

  -- one level less
  inline_is : (kind : StoredKind) (p : ℕ) → inline_value L b kind p ≡ inline_step L b kind p
  unfolding inline_value inline_at
  inline_is (scalar_kind base) p = let one : length L.schema.types + 2 ≡ suc (length L.schema.types + 1) =
      omega arith in rw one refl
  inline_is (struct_kind s) p =
      let one : length L.schema.types + 2 ≡ suc (length L.schema.types + 1) = omega arith in
      rw one (ap (λ o. o >>= λ ds. Some (a_struct ds))
      (parts_alike (λ k q. inline_at (length L.schema.types + 1) L b k q) (inline_value L b)
      (λ k q. inline_same (length L.schema.types + 1) (length L.schema.types + 2) k q (omega arith) (omega arith))
      (parts_of L s) (struct_at L s).offsets p))
  inline_is (table_kind t) p = let one : length L.schema.types + 2 ≡ suc (length L.schema.types + 1) = omega arith in
      rw one refl
  inline_is (union_kind u) p = let one : length L.schema.types + 2 ≡ suc (length L.schema.types + 1) = omega arith in
      rw one refl
  inline_is (code_kind u) p = let one : length L.schema.types + 2 ≡ suc (length L.schema.types + 1) = omega arith in
      rw one refl
  inline_is text_kind p = let one : length L.schema.types + 2 ≡ suc (length L.schema.types + 1) = omega arith in
      rw one refl

  -- so many levels are enough for a part
  Ample : Target → ℕ → ℕ → Type 0
  Ample (member_part c t) p m = (length L.schema.types + 2 * length b) + 3 < 2 * p + m
  Ample _ p m = (length L.schema.types + 2 * length b) + 2 < 2 * p + m

  -- one level more is enough for any
  ample : (X : Target) (p m : ℕ) → (length L.schema.types + 2 * length b) + 3 < 2 * p + m → Ample X p m
  unfolding Ample
  ample (member_part c t) p m h = h
  ample _ p m h = omega arith

  ample_some : (X : Target) (p m : ℕ) → Ample X p m → (length L.schema.types + 2 * length b) + 2 < 2 * p + m
  unfolding Ample
  ample_some (member_part c t) p m h = omega arith
  ample_some _ p m h = h

  -- past the bytes nothing lies
  past_none : (X : Target) (p n : ℕ) → length b < p → (o : Option ReadFault) → fault_at L b (part_place X) p ≡ o
      → datum_at n L b (part_place X) p ≡ None
  unfolding datum_at fault_by
  past_none X p zero past o e = refl
  past_none (member_part c t) p (suc n) past o e = let none =
      past_none (table_part t) p n past (fault_at L b (part_place (table_part t)) p) refl in rw none refl
  past_none X p (suc n) past None e = let within = part_within L b (length L.schema.types) (resolved L made) X p e in
      absurd (omega arith)
  past_none _ p (suc n) past (Some f) e = rw e refl

  -- two ways to read are the same behind position p
  record Alike (p : ℕ) (read other : Sort → ℕ → Option Datum) (inner others : StoredKind → ℕ → Option Datum) : Type
      0 where
    parts : (X : Target) (q : ℕ) → p < q → read (part_place X) q ≡ other (part_place X) q
    inlines : (kind : StoredKind) (q : ℕ) → p < q → read (inline_place kind) q ≡ other (inline_place kind) q
    inside : (kind : StoredKind) (q : ℕ) → p < q → inner kind q ≡ others kind q

  -- behind a reference
  ref_same : (p : ℕ) (read other : Sort → ℕ → Option Datum) (inner others : StoredKind → ℕ → Option Datum)
      → Alike p read other inner others → (X : Target) (q : ℕ) → p < q
      → through L b (ref_place X) q read ≡ through L b (ref_place X) q other
  ref_same p read other inner others alike X q up =
      unless_same (fault_at L b (ref_place X) q) _ _ (λ keeps. alike.parts X (q + num b q 4) (omega arith))

  entry_same : (p : ℕ) (read other : Sort → ℕ → Option Datum) (inner others : StoredKind → ℕ → Option Datum)
      → Alike p read other inner others → (s : Sort) (q : ℕ) (ss : SlotEntries) → p < q
      → IsGood (length L.schema.types) s → entry_at L b read s q ss ≡ entry_at L b other s q ss
  entry_same p read other inner others alike (ref_place X) q ss up good =
      rw (ref_same p read other inner others alike X q up) refl
  entry_same p read other inner others alike (part_place X) q ss up good = absurd good
  entry_same p read other inner others alike (inline_place kind) q ss up good = rw (alike.inlines kind q up) refl
  entry_same p read other inner others alike _ q ss up good = refl

  slots_same : (p : ℕ) (read other : Sort → ℕ → Option Datum) (inner others : StoredKind → ℕ → Option Datum)
      → Alike p read other inner others → (fs : List Slot) (xs : List (Option Place))
      → ((k : ℕ) (y : Place) → slice_get xs k ≡ Some (Some y) → (p < y.at) × IsGood (length L.schema.types) y.sort)
      → slots_at L b read fs xs ≡ slots_at L b other fs xs
  unfolding slots_at
  slots_same p read other inner others alike [] [] fine = refl
  slots_same p read other inner others alike [] (x ∷ xs) fine = refl
  slots_same p read other inner others alike (f ∷ fs) [] fine = refl
  slots_same p read other inner others alike (f ∷ fs) (None ∷ xs) fine =
      rw (slots_same p read other inner others alike fs xs (λ k y e. fine (suc k) y e)) refl
  slots_same p read other inner others alike (f ∷ fs) (Some y ∷ xs) fine =
      rw (slots_same p read other inner others alike fs xs (λ k z e. fine (suc k) z e))
      (bind_same (slots_at L b other fs xs) _ _
      (λ ss. entry_same p read other inner others alike y.sort y.at ss (fine 0 y refl).0 (fine 0 y refl).1))
    where
      bind_same : (o : Option SlotEntries) (f g : SlotEntries → Option SlotEntries) → ((ss : SlotEntries) → f ss ≡ g ss)
          → (o >>= f) ≡ (o >>= g)
      bind_same None f g same = refl
      bind_same (Some ss) f g same = same ss

  element_same : (p : ℕ) (read other : Sort → ℕ → Option Datum) (inner others : StoredKind → ℕ → Option Datum)
      → Alike p read other inner others → (kind : StoredKind) (q : ℕ) (o : Option Target) → p < q
      → element_at L b kind q o read inner ≡ element_at L b kind q o other others
  element_same p read other inner others alike kind q None up = alike.inside kind q up
  element_same p read other inner others alike kind q (Some X) up = ref_same p read other inner others alike X q up

  items_same : (p : ℕ) (read other : Sort → ℕ → Option Datum) (inner others : StoredKind → ℕ → Option Datum)
      → Alike p read other inner others → (kind : StoredKind) (q count : ℕ) → p < q
      → items_at L b read inner kind q count ≡ items_at L b other others kind q count
  unfolding items_at
  items_same p read other inner others alike kind q zero up = refl
  items_same p read other inner others alike kind q (suc count) up =
      rw (
        element_same p read other inner others alike kind q (target_of kind) up,
        items_same p read other inner others alike kind (q + size_of L kind) count (omega arith),
      ) refl

  -- in its place
  inline_place_same : (m n : ℕ) (kind : StoredKind) (p : ℕ) → length L.schema.types + 1 ≤ m
      → length L.schema.types + 1 ≤ n → datum_at m L b (inline_place kind) p ≡ datum_at n L b (inline_place kind) p
  unfolding datum_at
  inline_place_same zero n kind p h i = absurd (omega arith)
  inline_place_same (suc m) zero kind p h i = absurd (omega arith)
  inline_place_same (suc m) (suc n) kind p h i =
      unless_same (fault_at L b (inline_place kind) p) _ _ (λ keeps. inline_same (suc m) (suc n) kind p h i)

  -- what is known one level below, of any part
  Same : ℕ → ℕ → Type 0
  Same m n = (X : Target) (q : ℕ) → Ample X q m → Ample X q n → datum_at m L b (part_place X) q
      ≡ datum_at n L b (part_place X) q

  -- within levels enough at a part that keeps its rules, what is read one level below is the same
  levels_alike : (m n p : ℕ) (X : Target) → Keeps L b (part_place X) p → Ample X p (suc m) → Ample X p (suc n)
      → Same m n → Alike p (λ s q. datum_at m L b s q) (λ s q. datum_at n L b s q) (λ k q. inline_at m L b k q)
      (λ k q. inline_at n L b k q)
  unfolding Same
  levels_alike m n p X keeps h i known =
      let within = part_within L b (length L.schema.types) (resolved L made) X p keeps in
      let hh = ample_some X p (suc m) h in
      let ii = ample_some X p (suc n) i in
      record {
        parts = λ Y q up. known Y q (ample Y q m (omega arith)) (ample Y q n (omega arith));
        inlines = λ kind q up. inline_place_same m n kind q (omega arith) (omega arith);
        inside = λ kind q up. inline_same m n kind q (omega arith) (omega arith);
      }

  -- what a table names is behind it, and a reference or what stands in its place
  named_fine : (t p k : ℕ) (y : Place) → Keeps L b (part_place (table_part t)) p
      → slice_get (named_slots L b p 0 (slots_of L t)) k ≡ Some (Some y)
      → (p < y.at) × IsGood (length L.schema.types) y.sort
  named_fine t p k y keeps e = (
    steps_up L b (part_place (table_part t)) p k y keeps e,
    slots_good L b (length L.schema.types) p 0 (slots_of L t)
        k y ((resolved L made).stored t) e,
  )

  -- The value at a part is the same within any levels that are enough.
  part_same : (m n : ℕ) → Same m n
  unfolding datum_at Same Ample
  part_same zero n X p h i = let hh = ample_some X p zero h in
      sym (past_none X p n (omega arith) (fault_at L b (part_place X) p) refl)
  part_same (suc m) zero X p h i = let ii = ample_some X p zero i in
      past_none X p (suc m) (omega arith) (fault_at L b (part_place X) p) refl
  part_same (suc m) (suc n) (table_part t) p h i = unless_same (fault_at L b (part_place (table_part t)) p) _ _
      (λ keeps.
      ap (λ o. o >>= λ ss. Some (a_table t ss))
      (slots_same p _ _ _ _ (levels_alike m n p (table_part t) keeps h i (part_same m n)) (slots_of L t)
      (named_slots L b p 0 (slots_of L t)) (λ k y e. named_fine t p k y keeps e)))
  part_same (suc m) (suc n) (member_part c t) p h i =
      ap (λ o. o >>= λ d. Some (a_member c d)) (part_same m n (table_part t) p (omega arith) (omega arith))
  part_same (suc m) (suc n) text_part p h i = refl
  part_same (suc m) (suc n) (vector_part kind) p h i = unless_same (fault_at L b (part_place (vector_part kind)) p) _ _
      (λ keeps.
      ap (λ o. o >>= λ ds. Some (a_vector ds))
      (items_same p _ _ _ _ (levels_alike m n p (vector_part kind) keeps h i (part_same m n)) kind (p + 4)
      (num b p 4) (omega arith)))

  -- the levels that are taken are enough
  taken : (X : Target) (p m : ℕ) → value_levels L b p ≤ m → Ample X p m
  taken X p m h = ample X p m (omega arith)

  -- what is read one level below what is taken at p is what is read without levels
  without_levels : (m p : ℕ) (X : Target) → Keeps L b (part_place X) p → value_levels L b p ≡ suc m
      → Alike p (λ s q. datum_at m L b s q) (value_at L b) (λ k q. inline_at m L b k q) (inline_value L b)
  unfolding value_at inline_value Same
  without_levels m p X keeps is =
      let within = part_within L b (length L.schema.types) (resolved L made) X p keeps in
      record {
        parts = λ Y q up. part_same m (value_levels L b q) Y q (ample Y q m (omega arith))
            (taken Y q (value_levels L b q) (omega arith));
        inlines = λ kind q up. inline_place_same m (value_levels L b q) kind q (omega arith) (omega arith);
        inside = λ kind q up. inline_same m (length L.schema.types + 2) kind q (omega arith) (omega arith);
      }

  -- the levels that are taken are some
  one_more : (p : ℕ) → (m : ℕ) × (value_levels L b p ≡ suc m)
  one_more p = ((length L.schema.types + 2 * (length b - p)) + 3, omega arith)

  value_is : (sort : Sort) (p : ℕ) → value_at L b sort p ≡ value_step L b sort p
  unfolding value_at datum_at Same Ample
  value_is (inline_place kind) p = let m = one_more p in
      rw m.1 (unless_same (fault_at L b (inline_place kind) p) _ _
      (λ keeps. inline_is_value (suc m.0) kind p (omega (arith, m.1))))
  value_is (part_place (vector_part kind)) p = let m = one_more p in
      rw m.1 (unless_same (fault_at L b (part_place (vector_part kind)) p) _ _ (λ keeps.
      ap (λ o. o >>= λ ds. Some (a_vector ds)) (items_same p _ _ _ _ (without_levels m.0 p (vector_part kind) keeps m.1)
      kind (p + 4) (num b p 4) (omega arith))))
  value_is (part_place (table_part t)) p = let m = one_more p in
      rw m.1 (unless_same (fault_at L b (part_place (table_part t)) p) _ _ (λ keeps.
      ap (λ o. o >>= λ ss. Some (a_table t ss))
      (slots_same p _ _ _ _ (without_levels m.0 p (table_part t) keeps m.1) (slots_of L t)
      (named_slots L b p 0 (slots_of L t)) (λ k y e. named_fine t p k y keeps e))))
  value_is (part_place (member_part c t)) p = let m = one_more p in
      rw m.1 (ap (λ o. o >>= λ d. Some (a_member c d))
      (part_same m.0 (suc m.0) (table_part t) p (omega (arith, m.1)) (omega (arith, m.1))))
  value_is _ p = let m = one_more p in rw m.1 refl

-- The value at a place, by one step.
pub value_of_place_shown : ValueOfPlace
value_of_place_shown L b made = (value_is L b made, inline_is L b made)

-- What lies at a place is what is computed there.
lies_value : (L : LaidSchema) (b : Bytes) → IsWellMade L → (sort : Sort) (p : ℕ) (d : Datum) → Lies L b sort p d
    → value_at L b sort p ≡ Some d
unfolding value_at Same
lies_value L b made (part_place X) p d lies =
    let fuel = max (height d) (value_levels L b p) in
    part_same L b made (value_levels L b p) fuel X p (taken L b made X p (value_levels L b p) (omega arith))
    (taken L b made X p fuel (omega arith)) ∙ complete L b (part_place X) p d fuel lies (omega arith)
lies_value L b made (inline_place kind) p d lies =
    let fuel = max (height d) (value_levels L b p) in
    inline_place_same L b made (value_levels L b p) fuel kind p (omega arith) (omega arith)
    ∙ complete L b (inline_place kind) p d fuel lies (omega arith)
lies_value L b made _ p d lies = absurd lies

-- What is computed at a place is what lies there.
pub value_where_lies_shown : ValueWhereLies
unfolding value_at
value_where_lies_shown L b sort p d made =
    ((λ e. sound (value_levels L b p) L b sort p d e), (λ lies. lies_value L b made sort p d lies))
