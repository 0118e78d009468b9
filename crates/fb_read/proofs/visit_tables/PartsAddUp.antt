-- The parts of what is reached from a place: its own, and those of what it names.
use Rattle.std.proofs.Common.{◌≡◌, ℕ, zero, suc, ◌+◌, ◌-◌, ◌<◌, ◌≤◌, List, [], ◌∷◌, length, take, drop, Option, None}
use Rattle.std.proofs.Common.{Some, slice_get, Bool, true, false, nat_le, refl, sym, ap, ◌∙◌, arith}
use Rattle.std.proofs.lemmas.Bool.{leb-true}
use Rattle.std.proofs.lemmas.Bool.Decides.{nat_tests}
use Rattle.fb_schema.specs.declared.types.FieldInfo.{FieldInfo}
use Rattle.fb_layout.specs.Laid.{LaidSchema, Slot, StoredKind, slots_of}
use Rattle.fb_value.specs.declared.faults.ReadFault.{ReadFault}
use Rattle.fb_value.specs.Num.{Bytes, num}
use Rattle.fb_value.specs.Places.{Target, table_part, member_part, text_part, vector_part, ref_place, part_place}
use Rattle.fb_value.specs.Places.{Place, named, named_slots, named_vector, target_of, slot_number}
use Rattle.fb_value.specs.Reached.{Path}
use Rattle.fb_value.specs.Rules.{Keeps, fault_at, fault_by}
use Rattle.fb_value.specs.Faults.{sum_over, if_kept, levels}
use Rattle.fb_value.specs.Nth.{slot_place}
use Rattle.fb_value.proofs.rules.ComputedFaultIsTheLeast.{Enough, enough_below, if_kept_same, sum_same}
use Rattle.fb_value.proofs.rules.ComputedFaultIsTheLeast.{levels_enough}
use Rattle.fb_value.proofs.reached.CellsAreThoseReached.{kept}
use Rattle.fb_read.specs.Entered.{own_parts, parts_within, parts_from, at_entry, parts_along}
use Rattle.fb_read.specs.Visits.{slots_seen}
use Rattle.fb_read.specs.Walks.{place}
use Rattle.fb_read.proofs.places.AbsentSlotNamesNoPlace.{unset_place}
use Rattle.fb_read.proofs.places.FieldsAreTheirSlots.{seen_drop, drop_past, named_drop}

-- The parts of what is reached are the same within any levels that are enough.
parts_enough : (m n : ℕ) (L : LaidSchema) (b : Bytes) (x : Place) → Enough b x.at m → Enough b x.at n
    → parts_within m L b x ≡ parts_within n L b x
unfolding parts_within Enough
parts_enough zero n L b x h i = absurd (omega arith)
parts_enough (suc m) zero L b x h i = absurd (omega arith)
parts_enough (suc m) (suc n) L b x h i =
    if_kept_same (fault_at L b x.sort x.at) _ _ (λ keeps. ap (λ c. own_parts x.sort + c)
    (sum_same _ _ (named L b x.sort x.at)
    (λ k y names. parts_enough m n L b y (enough_below L b x.sort x.at m k y h keeps names)
    (enough_below L b x.sort x.at n k y i keeps names))))

module _ (L : LaidSchema) (b : Bytes) where
  -- one step of the definition, without levels
  parts_is : (x : Place) → parts_from L b x ≡ if_kept (fault_at L b x.sort x.at)
      (own_parts x.sort + sum_over (parts_from L b) (named L b x.sort x.at))
  unfolding parts_from parts_within
  parts_is x =
      if_kept_same (fault_at L b x.sort x.at) _ _ (λ keeps. ap (λ c. own_parts x.sort + c)
      (sum_same _ _ (named L b x.sort x.at) (λ k y names.
      parts_enough (length b - x.at) (levels b y.at) L b y
      (enough_below L b x.sort x.at (length b - x.at) k y (levels_enough b x.at) keeps names)
      (levels_enough b y.at))))

  pub parts_kept : (x : Place) → Keeps L b x.sort x.at
      → parts_from L b x ≡ own_parts x.sort + sum_over (parts_from L b) (named L b x.sort x.at)
  parts_kept x keeps = parts_is x ∙ kept _ _ keeps

  none_kept : (o : Option ReadFault) → if_kept o 0 ≡ 0
  none_kept None = refl
  none_kept (Some f) = refl

  -- what is no part and names nothing
  pub parts_none : (x : Place) → own_parts x.sort ≡ 0 → named L b x.sort x.at ≡ [] → parts_from L b x ≡ 0
  parts_none x own none = parts_is x ∙ (rw (own, none) (none_kept (fault_at L b x.sort x.at)))

  pub parts_ref : (X : Target) (p q : ℕ) → Keeps L b (ref_place X) p → q ≡ p + num b p 4
      → parts_from L b (place (ref_place X) p) ≡ parts_from L b (place (part_place X) q)
  parts_ref X p q keeps is =
      let step = parts_kept (place (ref_place X) p) keeps in
      rw is (omega (arith, step))

  pub parts_text : (p : ℕ) → Keeps L b (part_place text_part) p → parts_from L b (place (part_place text_part) p) ≡ 1
  parts_text p keeps = let step = parts_kept (place (part_place text_part) p) keeps in omega (arith, step)

  pub parts_vector : (kind : StoredKind) (p : ℕ) → Keeps L b (part_place (vector_part kind)) p
      → parts_from L b (place (part_place (vector_part kind)) p)
      ≡ 1 + sum_over (parts_from L b) (named_vector b p (target_of kind))
  parts_vector kind p keeps = parts_kept (place (part_place (vector_part kind)) p) keeps

  pub parts_table : (t p : ℕ) → Keeps L b (part_place (table_part t)) p
      → parts_from L b (place (part_place (table_part t)) p)
      ≡ 1 + sum_over (parts_from L b) (named_slots L b p 0 (slots_of L t))
  parts_table t p keeps = parts_kept (place (part_place (table_part t)) p) keeps

  -- ---- a member has the parts of its table

  pub member_part_parts : (c t p : ℕ) → parts_from L b (place (part_place (member_part c t)) p)
      ≡ parts_from L b (place (part_place (table_part t)) p)
  unfolding fault_by
  member_part_parts c t p = parts_is (place (part_place (member_part c t)) p)
      ∙ sym (parts_is (place (part_place (table_part t)) p))

  pub parts_member : (c t p : ℕ) → parts_from L b (place (ref_place (member_part c t)) p)
      ≡ parts_from L b (place (ref_place (table_part t)) p)
  unfolding fault_by
  parts_member c t p =
      rw (
        parts_is (place (ref_place (member_part c t)) p),
        parts_is (place (ref_place (table_part t)) p),
        member_part_parts c t (p + num b p 4),
      ) refl

  member_part_along : (c t p : ℕ) (path : Path) → parts_along L b (place (part_place (member_part c t)) p) path
      ≡ parts_along L b (place (part_place (table_part t)) p) path
  member_part_along c t p [] = refl
  member_part_along c t p (k ∷ path) = refl

  pub member_along : (c t p : ℕ) (path : Path) → parts_along L b (place (ref_place (member_part c t)) p) path
      ≡ parts_along L b (place (ref_place (table_part t)) p) path
  member_along c t p [] = refl
  member_along c t p (zero ∷ path) = rw (member_part_along c t (p + num b p 4) path) refl
  member_along c t p (suc zero ∷ path) = rw (member_part_parts c t (p + num b p 4)) refl
  member_along c t p (suc (suc k) ∷ path) = rw (member_part_parts c t (p + num b p 4)) refl

-- ---- sums over a front

module _ (number : Place → ℕ) where
  sum_first : (o : Option Place) (xs : List (Option Place)) → sum_over number (o ∷ xs)
      ≡ at_entry number (Some o) + sum_over number xs
  sum_first None xs = omega arith
  sum_first (Some x) xs = refl

  sum_more : (xs : List (Option Place)) (k : ℕ) (o : Option Place) → slice_get xs k ≡ Some o
      → sum_over number (take (suc k) xs) ≡ sum_over number (take k xs) + at_entry number (Some o)
  sum_more [] k o names = cc
  sum_more (x ∷ xs) zero o names =
      let is : x ≡ o = cc in
      let first = sum_first o [] in
      rw is (omega (arith, first))
  sum_more (x ∷ xs) (suc k) o names =
      let here = sum_first x (take (suc k) xs) in
      let there = sum_first x (take k xs) in
      let rest = sum_more xs k o names in
      omega (arith, here, there, rest)

  -- one place more is counted
  pub sum_next : (xs : List (Option Place)) (k : ℕ) (o : Option Place) (old mid new : ℕ) → slice_get xs k ≡ Some o
      → mid ≡ old + sum_over number (take k xs) → new ≡ mid + at_entry number (Some o)
      → new ≡ old + sum_over number (take (k + 1) xs)
  sum_next xs k o old mid new names before here =
      let one : k + 1 ≡ suc k = omega arith in
      let more = sum_more xs k o names in
      rw one (omega (arith, before, here, more))

  pub sum_split : (xs : List (Option Place)) (k : ℕ)
      → sum_over number xs ≡ sum_over number (take k xs) + sum_over number (drop k xs)
  sum_split xs zero = omega arith
  sum_split [] (suc k) = omega arith
  sum_split (x ∷ xs) (suc k) =
      let all = sum_first x xs in
      let front = sum_first x (take k xs) in
      let rest = sum_split xs k in
      omega (arith, all, front, rest)

-- ---- slots that are absent

module _ (L : LaidSchema) (b : Bytes) (number : Place → ℕ) where
  unset_sum : (p k : ℕ) (fs : List Slot) → ((j : ℕ) → k ≤ j → slot_number b p j ≡ 0)
      → sum_over number (named_slots L b p k fs) ≡ 0
  unfolding named_slots
  unset_sum p k [] none = refl
  unset_sum p k (f ∷ fs) none =
      let no_place = unset_place L b p k fs f (none k (omega arith)) in
      let first = sum_first number (slot_place L b p k fs f) (named_slots L b p (suc k) fs) in
      let rest = unset_sum p (suc k) fs (λ j h. none j (omega arith)) in
      let here : at_entry number (Some (slot_place L b p k fs f)) ≡ 0 = rw no_place refl in
      first ∙ omega (arith, here, rest)

  nil_sum : (p k : ℕ) → sum_over number (named_slots L b p k []) ≡ 0
  unfolding named_slots
  nil_sum p k = refl

  -- after the last slot that is stored
  rest_sum : (p k stored : ℕ) (xs : List FieldInfo) → k ≡ stored
      → (stored < length xs → (j : ℕ) → stored ≤ j → slot_number b p j ≡ 0)
      → sum_over number (named_slots L b p k (slots_seen L (drop k xs))) ≡ 0
  rest_sum p k stored xs is none = by_case (nat_le (length xs) k) refl
    where
      by_case : (c : Bool) → nat_le (length xs) k ≡ c
          → sum_over number (named_slots L b p k (slots_seen L (drop k xs))) ≡ 0
      by_case true e = rw (drop_past xs k (leb-true _ _ e)) (nil_sum p k)
      by_case false e = let less : k < length xs = grind (arith, nat_tests) in
          unset_sum p k (slots_seen L (drop k xs)) (λ j h. none (omega (arith, is)) j (omega (arith, is)))

  -- A count of the slots that are stored is one of them all.
  pub slots_sum : (p k stored : ℕ) (xs : List FieldInfo) (old new : ℕ) → k ≡ stored
      → (stored < length xs → (j : ℕ) → stored ≤ j → slot_number b p j ≡ 0)
      → new ≡ old + sum_over number (take k (named_slots L b p 0 (slots_seen L xs)))
      → new ≡ old + sum_over number (named_slots L b p 0 (slots_seen L xs))
  slots_sum p k stored xs old new is none before =
      let here : 0 + k ≡ k = omega arith in
      let split = sum_split number (named_slots L b p 0 (slots_seen L xs)) k in
      let rest : sum_over number (drop k (named_slots L b p 0 (slots_seen L xs))) ≡ 0 =
      rw (named_drop L b p 0 k (slots_seen L xs), seen_drop L xs k, here) (rest_sum p k stored xs is none) in
      omega (arith, before, split, rest)
