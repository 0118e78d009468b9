-- Where no rule fails at a place that is reached, a value lies.
use Rattle.std.proofs.Common.{◌≡◌, ℕ, zero, suc, ◌+◌, ◌-◌, ◌*◌, ◌<◌, ◌≤◌, Bool, true, false, cond, List, [], ◌∷◌}
use Rattle.std.proofs.Common.{length, Option, None, Some, slice_get, refl, ap, arith}
use Rattle.std.proofs.lemmas.Bool.{leb-true, and_parts}
use Rattle.fb_value.specs.Datum.{Datum, no_parts, SlotEntries, no_entries}
use Rattle.fb_value.specs.Num.{Bytes, num}
use Rattle.fb_layout.specs.Laid.{LaidSchema, Slot, StoredKind, scalar_kind, struct_kind, table_kind, union_kind}
use Rattle.fb_layout.specs.Laid.{text_kind, StoredShape, one_of, vector_of, slots_of, parts_of, struct_at}
use Rattle.fb_layout.specs.Laid.{size_of, member_by_code}
use Rattle.fb_value.specs.Places.{Target, table_part, member_part, text_part, vector_part, Sort, ref_place, part_place}
use Rattle.fb_value.specs.Places.{inline_place, code_place, unknown_place, Place, named, named_slot, named_union}
use Rattle.fb_value.specs.Places.{named_slots, named_elements, target_of, code_at}
use Rattle.fb_value.specs.Rules.{Keeps, fault_at, fault_by}
use Rattle.fb_value.specs.Lies.{LiesAt}
use Rattle.fb_value.specs.Reads.{unless, ◌>>=◌, parts_at, inline_at, through, element_at, items_at, entry_at, slot_at}
use Rattle.fb_value.specs.Reads.{slots_at, datum_at}
use Rattle.fb_value.specs.Reached.{Names, AllKeep}
use Rattle.fb_value.proofs.types.StoredKindsAreResolved.{LowerParts, IsElement, IsStored, AreStored, IsResolved}
use Rattle.fb_value.proofs.types.StoredKindsAreResolved.{IsInline}
use Rattle.fb_value.proofs.types.StoredKindsAreResolved.{IsTarget, IsGood}
use Rattle.fb_value.proofs.rules.RulesHoldOneByOne.{rule_held}
use Rattle.fb_value.proofs.reached.StepsLeadForward.{steps_up, if_there, same_place}
use Rattle.fb_value.proofs.laws.ComputedValueLies.{sound}

-- there is a value that was computed
Found : {A : Type 0} → Option A → Type 0
Found {A} o = (x : A) × (o ≡ Some x)

-- A value made from one that is there is there.
found_bind : {A B : Type 0} (r : Option A) (f : A → Option B) → Found r → ((x : A) → Found (f x)) → Found (r >>= f)
unfolding Found
found_bind r f (x, e) known = rw e (known x)

-- A value is there where the place keeps its rules.
found_unless : {A : Type 0} (L : LaidSchema) (b : Bytes) (s : Sort) (p : ℕ) (r : Option A) → Keeps L b s p → Found r
    → Found (unless (fault_at L b s p) r)
unfolding Found
found_unless L b s p r keeps found = rw keeps found

-- What is there is there.
found_some : {A : Type 0} (x : A) → Found (Some x)
unfolding Found
found_some x = (x, refl)

-- structs have only lower ones in them, so as many levels as the struct's number are enough
module _ (L : LaidSchema) (b : Bytes) (lower : (s : ℕ) → LowerParts s (parts_of L s) (struct_at L s).offsets) where
  -- The parts of a struct are there, once the lower structs are.
  parts_found : (fuel s : ℕ) → s < fuel → ((t q : ℕ) → t < s → Found (inline_at fuel L b (struct_kind t) q))
      → (ks : List StoredKind) (os : List ℕ) (p : ℕ) → LowerParts s ks os
      → Found (parts_at (λ k q. inline_at fuel L b k q) ks os p)
  unfolding parts_at inline_at
  parts_found zero s h known ks os p lows = absurd (omega arith)
  parts_found (suc fuel) s h known [] os p lows = found_some no_parts
  parts_found (suc fuel) s h known (scalar_kind base ∷ ks) (o ∷ os) p lows =
      found_bind _ _ (parts_found (suc fuel) s h known ks os p lows) (λ ds. found_some _)
  parts_found (suc fuel) s h known (struct_kind t ∷ ks) (o ∷ os) p lows =
      found_bind _ _ (known t (p + o) lows.0)
      (λ d. found_bind _ _ (parts_found (suc fuel) s h known ks os p lows.1) (λ ds. found_some _))
  parts_found (suc fuel) s h known _ _ p lows = absurd lows

  -- A struct is there, within as many levels as its number needs.
  struct_found : (fuel s p : ℕ) → s + 2 ≤ fuel → Found (inline_at fuel L b (struct_kind s) p)
  unfolding inline_at
  struct_found zero s p h = absurd (omega arith)
  struct_found (suc fuel) s p h =
      found_bind _ _ (parts_found fuel s (omega arith) (λ t q less. struct_found fuel t q (omega arith)) (parts_of L s)
      (struct_at L s).offsets p (lower s)) (λ ds. found_some _)

-- A good place is good where a test lets it stand.
there_good : (most : ℕ) (c : Bool) (x y : Place) → IsGood most x.sort → cond c (Some x) None ≡ Some y
    → IsGood most y.sort
there_good most c x y good e = rw (← ((if_there c x y e).1)) good

-- What a union names is good.
union_good : (b : Bytes) (most p k c : ℕ) (o : Option ℕ) (y : Place) → named_union b p k c o ≡ Some y
    → IsGood most y.sort
union_good b most p k c None y e = there_good most _ _ y tt e
union_good b most p k c (Some t) y e = there_good most _ _ y tt e

-- What a slot names is good.
slot_good : (L : LaidSchema) (b : Bytes) (most p k : ℕ) (fs : List Slot) (s : StoredShape) (y : Place) → IsStored most s
    → named_slot L b p k fs s ≡ Some y → IsGood most y.sort
slot_good L b most p k fs (one_of (union_kind u)) y good e =
    union_good b most p k (code_at b p (k - 1)) (member_by_code L u (code_at b p (k - 1))) y e
slot_good L b most p k fs (one_of (struct_kind s)) y good e = there_good most _ _ y good e
slot_good L b most p k fs (vector_of kind) y good e = there_good most _ _ y good e
slot_good L b most p k fs _ y good e = there_good most _ _ y tt e

-- What a slot names, where it is not deprecated, is good.
either_good : (most : ℕ) (deprecated : Bool) (o : Option Place) (y : Place)
    → ((z : Place) → o ≡ Some z → IsGood most z.sort) → Some (cond deprecated None o) ≡ Some (Some y)
    → IsGood most y.sort
either_good most true o y known e = cc
either_good most false o y known e = known y cc

-- What the slots of a table name is good.
pub slots_good : (L : LaidSchema) (b : Bytes) (most p k : ℕ) (fs : List Slot) (j : ℕ) (y : Place) → AreStored most fs
    → slice_get (named_slots L b p k fs) j ≡ Some (Some y) → IsGood most y.sort
unfolding named_slots
slots_good L b most p k [] j y good e = cc
slots_good L b most p k (f ∷ fs) zero y good e = either_good most f.deprecated (named_slot L b p k fs f.shape) y
    (λ z h. slot_good L b most p k fs f.shape z good.0 h) e
slots_good L b most p k (f ∷ fs) (suc j) y good e = slots_good L b most p (suc k) fs j y good.1 e

-- so many levels are enough, those of structs too
Ample : Bytes → ℕ → ℕ → ℕ → Type 0
Ample b most p fuel = (most + 2 * length b) + 2 < 2 * p + fuel

-- a member takes a level more than its table
need : Target → ℕ
need (member_part c t) = 1
need _ = 0

-- One level more is enough for any part.
need_small : (X : Target) → need X ≤ 1
unfolding need
need_small (member_part c t) = omega arith
need_small (table_part t) = omega arith
need_small text_part = omega arith
need_small (vector_part kind) = omega arith

module _ (L : LaidSchema) (b : Bytes) (most : ℕ) (made : IsResolved L most) where
  -- Where each reached place keeps its rules, so does each that is reached from what is named.
  child_keeps : (x : Place) (k : ℕ) (y : Place) → AllKeep L b x → Names L b x k y → AllKeep L b y
  child_keeps x k y keep names path z leads = keep (k ∷ path) z (keep [] x refl, y, names, leads)

  -- what is known of each place one level below
  Known : ℕ → Type 0
  Known fuel = (X : Target) (q : ℕ) → IsTarget most X → (need X + (most + 2 * length b)) + 2 < 2 * q + fuel
      → AllKeep L b (record { sort = part_place X; at = q }) → Found (datum_at fuel L b (part_place X) q)

  -- What stands in its place is there.
  inline_found : (kind : StoredKind) (p fuel : ℕ) → IsInline most kind → most + 2 ≤ fuel
      → Found (inline_at fuel L b kind p)
  unfolding inline_at
  inline_found (scalar_kind base) p zero good h = absurd (omega arith)
  inline_found (scalar_kind base) p (suc fuel) good h = found_some _
  inline_found (struct_kind s) p fuel good h = struct_found L b made.lower fuel s p (omega arith)
  inline_found _ p fuel good h = absurd good

  -- What is behind a reference is there.
  ref_found : (fuel : ℕ) → Known fuel → (X : Target) (p : ℕ) → IsTarget most X → Ample b most p (suc fuel)
      → AllKeep L b (record { sort = ref_place X; at = p })
      → Found (through L b (ref_place X) p (λ s q. datum_at fuel L b s q))
  unfolding Known Ample
  ref_found fuel known X p good ample keep =
      let keeps = keep [] (record { sort = ref_place X; at = p }) refl in
      let up = steps_up L b (ref_place X) p 0 (record { sort = part_place X; at = p + num b p 4 }) keeps refl in
      let small = need_small X in
      found_unless L b (ref_place X) p _ keeps
      (known X (p + num b p 4) good (omega arith)
      (child_keeps (record { sort = ref_place X; at = p }) 0 (record { sort = part_place X; at = p + num b p 4 })
      keep refl))

  -- A number or struct that a slot names is there.
  inline_place_found : (fuel : ℕ) (kind : StoredKind) (p : ℕ) → IsInline most kind → Ample b most p (suc fuel)
      → AllKeep L b (record { sort = inline_place kind; at = p }) → Found (datum_at fuel L b (inline_place kind) p)
  unfolding datum_at Ample fault_by
  inline_place_found zero kind p good ample keep =
      let within : p + size_of L kind ≤ length b =
      leb-true _ _ (rule_held _ _ _
      (rule_held _ _ _ (keep [] (record { sort = inline_place kind; at = p }) refl)).1).0 in
      absurd (omega arith)
  inline_place_found (suc fuel) kind p good ample keep =
      let within : p + size_of L kind ≤ length b =
      leb-true _ _ (rule_held _ _ _
      (rule_held _ _ _ (keep [] (record { sort = inline_place kind; at = p }) refl)).1).0 in
      found_unless L b (inline_place kind) p _ (keep [] (record { sort = inline_place kind; at = p }) refl)
      (inline_found kind p (suc fuel) good (omega arith))

  -- a place that a slot names
  Fine : ℕ → Place → Type 0
  Fine fuel y = IsGood most y.sort × Ample b most y.at (suc fuel) × AllKeep L b y

  -- The entry at a place that a slot names is there.
  entry_found : (fuel : ℕ) → Known fuel → (s : Sort) (p : ℕ) (ss : SlotEntries)
      → Fine fuel (record { sort = s; at = p }) → Found (entry_at L b (λ s q. datum_at fuel L b s q) s p ss)
  unfolding Fine Known Ample
  entry_found fuel known (ref_place X) p ss fine = found_bind _ _ (ref_found fuel known X p fine.0 fine.1 fine.2)
      (λ d. found_some _)
  entry_found fuel known (part_place X) p ss fine = absurd fine.0
  entry_found fuel known (inline_place kind) p ss fine =
      found_bind _ _ (inline_place_found fuel kind p fine.0 fine.1 fine.2) (λ d. found_some _)
  entry_found fuel known (unknown_place c) p ss fine = found_some _
  entry_found fuel known (code_place u k required here) p ss fine =
      found_unless L b (code_place u k required here) p _
      (fine.2 [] (record { sort = code_place u k required here; at = p }) refl) (found_some _)

  -- The entry of a slot is there.
  slot_found : (fuel : ℕ) → Known fuel → (f : Slot) (x : Option Place) (ss : SlotEntries)
      → ((y : Place) → x ≡ Some y → Fine fuel y) → Found (slot_at L b (λ s q. datum_at fuel L b s q) f x ss)
  slot_found fuel known f None ss fine = found_some _
  slot_found fuel known f (Some y) ss fine = entry_found fuel known y.sort y.at ss (fine y refl)

  -- The entries of a table are there.
  slots_found : (fuel : ℕ) → Known fuel → (p k : ℕ) (fs : List Slot)
      → ((j : ℕ) (y : Place) → slice_get (named_slots L b p k fs) j ≡ Some (Some y) → Fine fuel y)
      → Found (slots_at L b (λ s q. datum_at fuel L b s q) fs (named_slots L b p k fs))
  unfolding slots_at named_slots
  slots_found fuel known p k [] fine = found_some no_entries
  slots_found fuel known p k (f ∷ fs) fine =
      found_bind _ _ (slots_found fuel known p (suc k) fs (λ j y e. fine (suc j) y e))
      (λ ss. slot_found fuel known f _ ss (λ y e. fine 0 y (ap Some e)))

  -- The elements by reference are there.
  items_found : (fuel : ℕ) → Known fuel → (kind : StoredKind) (X : Target) → target_of kind ≡ Some X
      → size_of L kind ≡ 4 → (p n : ℕ)
      → ((j : ℕ) (y : Place) → slice_get (named_elements X p n) j ≡ Some (Some y) → Fine fuel y)
      → Found (items_at L b (λ s q. datum_at fuel L b s q) (λ k q. inline_at fuel L b k q) kind p n)
  unfolding items_at named_elements Fine
  items_found fuel known kind X is four p zero fine = found_some no_parts
  items_found fuel known kind X is four p (suc n) fine =
      let here = fine 0 (record { sort = ref_place X; at = p }) refl in
      let first : Found (element_at L b kind p (target_of kind) (λ s q. datum_at fuel L b s q)
      (λ k q. inline_at fuel L b k q)) = rw is (ref_found fuel known X p here.0 here.1 here.2) in
      let rest : Found (items_at L b (λ s q. datum_at fuel L b s q) (λ k q. inline_at fuel L b k q) kind
      (p + size_of L kind) n) = rw four
      (items_found fuel known kind X is four (p + 4) n (λ j y e. fine (suc j) y e)) in
      found_bind _ _ first (λ d. found_bind _ _ rest (λ ds. found_some _))

  -- The elements without references are there.
  inlines_found : (fuel : ℕ) (kind : StoredKind) → target_of kind ≡ None → IsInline most kind → most + 2 ≤ fuel
      → (p n : ℕ) → Found (items_at L b (λ s q. datum_at fuel L b s q) (λ k q. inline_at fuel L b k q) kind p n)
  unfolding items_at
  inlines_found fuel kind is good h p zero = found_some no_parts
  inlines_found fuel kind is good h p (suc n) =
      let first : Found (element_at L b kind p (target_of kind) (λ s q. datum_at fuel L b s q)
      (λ k q. inline_at fuel L b k q)) = rw is (inline_found kind p fuel good h) in
      found_bind _ _ first (λ d. found_bind _ _ (inlines_found fuel kind is good h (p + size_of L kind) n)
      (λ ds. found_some _))

  -- What a part names is fine, one level below.
  fine_child : (fuel : ℕ) (X : Target) (p k : ℕ) (y : Place) → IsTarget most X → Ample b most p (suc fuel)
      → AllKeep L b (record { sort = part_place X; at = p }) → slice_get (named L b (part_place X) p) k ≡ Some (Some y)
      → IsGood most y.sort → Fine fuel y
  unfolding Fine Ample
  fine_child fuel X p k y good ample keep names is =
      let up = steps_up L b (part_place X) p k y (keep [] (record { sort = part_place X; at = p }) refl) names in
      (is, omega arith, child_keeps (record { sort = part_place X; at = p }) k y keep names)

  -- What references name is good.
  elements_good : (X : Target) (p n j : ℕ) (y : Place) → IsTarget most X
      → slice_get (named_elements X p n) j ≡ Some (Some y) → IsGood most y.sort
  unfolding named_elements
  elements_good X p zero j y good e = cc
  elements_good X p (suc n) zero y good e =
      rw (← (same_place (record { sort = ref_place X; at = p }) y e)) good
  elements_good X p (suc n) (suc j) y good e = elements_good X (p + 4) n j y good e

  -- The elements of a vector are there.
  vector_found : (fuel : ℕ) → Known fuel → (kind : StoredKind) (p : ℕ) → IsElement most kind → Ample b most p (suc fuel)
      → most + 2 ≤ fuel → AllKeep L b (record { sort = part_place (vector_part kind); at = p })
      → Found (items_at L b (λ s q. datum_at fuel L b s q) (λ k q. inline_at fuel L b k q) kind (p + 4) (num b p 4))
  vector_found fuel known text_kind p good ample h keep =
      items_found fuel known text_kind text_part refl refl (p + 4) (num b p 4)
      (λ j y e. fine_child fuel (vector_part text_kind) p j y good ample keep e
      (elements_good text_part (p + 4) (num b p 4) j y tt e))
  vector_found fuel known (table_kind t) p good ample h keep =
      items_found fuel known (table_kind t) (table_part t) refl refl (p + 4) (num b p 4)
      (λ j y e. fine_child fuel (vector_part (table_kind t)) p j y good ample keep e
      (elements_good (table_part t) (p + 4) (num b p 4) j y tt e))
  vector_found fuel known (scalar_kind base) p good ample h keep =
      inlines_found fuel (scalar_kind base) refl tt h (p + 4) (num b p 4)
  vector_found fuel known (struct_kind s) p good ample h keep =
      inlines_found fuel (struct_kind s) refl good h (p + 4) (num b p 4)
  vector_found fuel known _ p good ample h keep = absurd good

  -- A table is there.
  table_found : (fuel : ℕ) → Known fuel → (t p : ℕ) → Ample b most p (suc fuel)
      → AllKeep L b (record { sort = part_place (table_part t); at = p })
      → Found (datum_at (suc fuel) L b (part_place (table_part t)) p)
  unfolding datum_at
  table_found fuel known t p ample keep =
      found_unless L b (part_place (table_part t)) p _
      (keep [] (record { sort = part_place (table_part t); at = p }) refl)
      (found_bind _ _ (slots_found fuel known p 0 (slots_of L t)
      (λ j y e. fine_child fuel (table_part t) p j y tt ample keep e
      (slots_good L b most p 0 (slots_of L t) j y (made.stored t) e))) (λ ss. found_some _))

  -- A member is its table, under a code: where all keep their rules behind it, they do behind the table.
  as_member : (c t p : ℕ) → AllKeep L b (record { sort = part_place (member_part c t); at = p })
      → AllKeep L b (record { sort = part_place (table_part t); at = p })
  unfolding fault_by
  as_member c t p keep [] y leads =
      rw (← leads) (keep [] (record { sort = part_place (member_part c t); at = p }) refl)
  as_member c t p keep (k ∷ path) y leads = keep (k ∷ path) y leads

  -- A part that keeps its rules begins inside the bytes.
  pub part_within : (X : Target) (p : ℕ) → Keeps L b (part_place X) p → p + 4 ≤ length b
  unfolding fault_by
  part_within text_part p e = leb-true _ _ (and_parts _ _ (rule_held _ _ _ (rule_held _ _ _ e).1).0).0
  part_within (vector_part kind) p e = leb-true _ _ (and_parts _ _ (rule_held _ _ _ (rule_held _ _ _ e).1).0).0
  part_within _ p e = leb-true _ _ (rule_held _ _ _ (rule_held _ _ _ e).1).0

  -- Each part is there, within levels enough.
  part_found : (fuel : ℕ) → Known fuel
  unfolding datum_at Known Ample need
  part_found zero X q good ample keep = let within =
      part_within X q (keep [] (record { sort = part_place X; at = q }) refl) in absurd (omega arith)
  part_found (suc fuel) (table_part t) q good ample keep = table_found fuel (part_found fuel) t q (omega arith) keep
  part_found (suc fuel) (member_part c t) q good ample keep =
      found_bind _ _ (part_found fuel (table_part t) q tt (omega arith) (as_member c t q keep)) (λ d. found_some _)
  part_found (suc fuel) text_part q good ample keep =
      found_unless L b (part_place text_part) q _ (keep [] (record { sort = part_place text_part; at = q }) refl)
      (found_some _)
  part_found (suc fuel) (vector_part kind) q good ample keep =
      let keeps = keep [] (record { sort = part_place (vector_part kind); at = q }) refl in
      let within = part_within (vector_part kind) q keeps in
      found_unless L b (part_place (vector_part kind)) q _ keeps
      (found_bind _ _ (vector_found fuel (part_found fuel) kind q good (omega arith) (omega arith) keep)
      (λ ds. found_some _))

  -- Where no rule fails at a place that is reached, a value lies there.
  pub all_keep_lies : (X : Target) (p : ℕ) → IsTarget most X → AllKeep L b (record { sort = ref_place X; at = p })
      → (d : Datum) × LiesAt L b (ref_place X) p d
  unfolding Found Known Ample
  all_keep_lies X p good keep =
      let fuel = (most + 2 * length b) + 4 in
      let small = need_small X in
      let keeps = keep [] (record { sort = ref_place X; at = p }) refl in
      let found = part_found fuel X (p + num b p 4) good (omega arith)
      (child_keeps (record { sort = ref_place X; at = p }) 0 (record { sort = part_place X; at = p + num b p 4 })
      keep refl) in
      (found.0, (keeps, sound fuel L b (part_place X) (p + num b p 4) found.0 found.1))
