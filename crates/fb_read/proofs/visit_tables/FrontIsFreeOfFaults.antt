-- A visit of the first of some places that finds no fault there.
use Rattle.std.proofs.Common.{◌≡◌, ℕ, zero, suc, ◌+◌, ◌*◌, ◌<◌, ◌≤◌, List, [], ◌∷◌, length, take, drop, Option, None}
use Rattle.std.proofs.Common.{Some, Result, Ok, Err, slice_get, slice_index_or, refl, sym, ap, ◌∙◌, arith}
use Rattle.std.proofs.Common.{take-take, Bool, true, false, nat_le}
use Rattle.std.proofs.lemmas.List.{take_all}
use Rattle.std.proofs.lemmas.Bool.{leb-true}
use Rattle.std.proofs.lemmas.Bool.Decides.{nat_tests}
use Rattle.fb_schema.specs.declared.types.FieldInfo.{FieldInfo}
use Rattle.fb_layout.specs.Laid.{LaidSchema, Slot}
use Rattle.fb_value.specs.declared.faults.ReadFault.{ReadFault}
use Rattle.fb_value.specs.Bounds.{Bounds}
use Rattle.fb_value.specs.Num.{Bytes}
use Rattle.fb_value.specs.Places.{Target, ref_place, Place, named_slots, named_elements, slot_number}
use Rattle.fb_value.specs.Faults.{sum_over, all, first_among, fault_from}
use Rattle.fb_value.specs.Nth.{slot_place}
use Rattle.fb_value.proofs.rules.ComputedFaultIsTheLeast.{among_none}
use Rattle.fb_read.specs.Visits.{outcome, visit_each, visit_entry, slot_seen, slots_seen}
use Rattle.fb_read.proofs.places.FieldsAreTheirSlots.{slot_there, seen_drop, drop_past, named_drop}
use Rattle.fb_read.proofs.places.AbsentSlotNamesNoPlace.{unset_place}
use Rattle.fb_read.proofs.visit_tables.VisitsOnePlaceAfterAnother.{each_nil, each_step, each_stop}
use Rattle.fb_layout.proofs.slots.SlotsAreAsManyAsFields.{seen_long}

-- the entry at a number is the same in a front that has it
front_entry : (xs : List (Option Place)) (j k : ℕ) → j < k → slice_get (take k xs) j ≡ slice_get xs j
front_entry xs j zero less = absurd (omega arith)
front_entry [] j (suc k) less = refl
front_entry (x ∷ xs) zero (suc k) less = refl
front_entry (x ∷ xs) (suc j) (suc k) less = front_entry xs j k (omega arith)

none_left : (o : Option ReadFault) (n m : ℕ) → outcome o n ≡ Ok m → (o ≡ None) × (n ≡ m)
none_left None n m e = (refl, cc)
none_left (Some f) n m e = cc

module _ (L : LaidSchema) (b : Bytes) (most : Bounds) where
  -- one place more
  pub front_more : (xs : List (Option Place)) (k : ℕ) (o : Option Place) (tables spent mid after : ℕ)
      → slice_get xs k ≡ Some o → visit_each L b most (take k xs) tables spent ≡ Ok mid
      → visit_entry L b most o tables mid ≡ Ok after → visit_each L b most (take (suc k) xs) tables spent ≡ Ok after
  front_more [] k o tables spent mid after names before here = cc
  front_more (x ∷ xs) zero o tables spent mid after names before here =
      let is : x ≡ o = cc in
      let nothing = each_nil L b most tables spent in
      let start : spent ≡ mid = cc in
      each_step L b most x [] tables spent after (rw (is, start) here) ∙ each_nil L b most tables after
  front_more (x ∷ xs) (suc k) o tables spent mid after names before here =
      by_case (visit_entry L b most x tables spent) refl
      (λ n rest. front_more xs k o tables n mid after names rest here)
    where
      by_case : (r : Result ℕ ReadFault) → visit_entry L b most x tables spent ≡ r
          → ((n : ℕ) → visit_each L b most (take k xs) tables n ≡ Ok mid
          → visit_each L b most (take (suc k) xs) tables n ≡ Ok after)
          → visit_each L b most (x ∷ take (suc k) xs) tables spent ≡ Ok after
      by_case (Ok n) e known = each_step L b most x (take (suc k) xs) tables spent n e
          ∙ known n (sym (each_step L b most x (take k xs) tables spent n e) ∙ before)
      by_case (Err f) e known = let stops = each_stop L b most x (take k xs) tables spent f e in cc

  pub front_next : (xs : List (Option Place)) (k : ℕ) (o : Option Place) (tables spent mid after : ℕ)
      → slice_get xs k ≡ Some o → visit_each L b most (take k xs) tables spent ≡ Ok mid
      → visit_entry L b most o tables mid ≡ Ok after → visit_each L b most (take (k + 1) xs) tables spent ≡ Ok after
  front_next xs k o tables spent mid after names before here =
      let one : k + 1 ≡ suc k = omega arith in
      rw one (front_more xs k o tables spent mid after names before here)

  -- behind a front
  front_then : (xs : List (Option Place)) (k tables spent mid : ℕ)
      → visit_each L b most (take k xs) tables spent ≡ Ok mid
      → visit_each L b most xs tables spent ≡ visit_each L b most (drop k xs) tables mid
  front_then xs zero tables spent mid before =
      let nothing = each_nil L b most tables spent in
      let start : spent ≡ mid = cc in
      rw start refl
  front_then [] (suc k) tables spent mid before =
      let nothing = each_nil L b most tables spent in
      let start : spent ≡ mid = cc in
      rw start refl
  front_then (x ∷ xs) (suc k) tables spent mid before =
      by_case (visit_entry L b most x tables spent) refl (λ n rest. front_then xs k tables n mid rest)
    where
      by_case : (r : Result ℕ ReadFault) → visit_entry L b most x tables spent ≡ r
          → ((n : ℕ) → visit_each L b most (take k xs) tables n ≡ Ok mid
          → visit_each L b most xs tables n ≡ visit_each L b most (drop k xs) tables mid)
          → visit_each L b most (x ∷ xs) tables spent ≡ visit_each L b most (drop k xs) tables mid
      by_case (Ok n) e known = each_step L b most x xs tables spent n e
          ∙ known n (sym (each_step L b most x (take k xs) tables spent n e) ∙ before)
      by_case (Err f) e known = let stops = each_stop L b most x (take k xs) tables spent f e in cc

  drop_there : (xs : List (Option Place)) (k : ℕ) (o : Option Place) → slice_get xs k ≡ Some o
      → drop k xs ≡ o ∷ drop (suc k) xs
  drop_there [] k o e = cc
  drop_there (x ∷ xs) zero o e = let is : x ≡ o = cc in rw is refl
  drop_there (x ∷ xs) (suc k) o e = drop_there xs k o e

  -- a fault at the place behind it
  pub front_fails : (xs : List (Option Place)) (k : ℕ) (o : Option Place) (tables spent mid : ℕ) (f : ReadFault)
      → slice_get xs k ≡ Some o → visit_each L b most (take k xs) tables spent ≡ Ok mid
      → visit_entry L b most o tables mid ≡ Err f → visit_each L b most xs tables spent ≡ Err f
  front_fails xs k o tables spent mid f names before here =
      front_then xs k tables spent mid before
      ∙ rw (drop_there xs k o names) (each_stop L b most o (drop (suc k) xs) tables mid f here)

  -- the whole
  pub front_whole : (xs : List (Option Place)) (k tables spent after : ℕ) → length xs ≤ k
      → visit_each L b most (take k xs) tables spent ≡ Ok after → visit_each L b most xs tables spent ≡ Ok after
  front_whole xs k tables spent after long before = rw (take_all k xs long) at before

  unset_none : (p k tables spent : ℕ) → visit_each L b most (named_slots L b p k []) tables spent ≡ Ok spent
  unfolding named_slots
  unset_none p k tables spent = each_nil L b most tables spent

  -- slots that are all absent
  unset : (p k : ℕ) (fs : List Slot) (tables spent : ℕ) → ((j : ℕ) → k ≤ j → slot_number b p j ≡ 0)
      → visit_each L b most (named_slots L b p k fs) tables spent ≡ Ok spent
  unfolding named_slots
  unset p k [] tables spent none = each_nil L b most tables spent
  unset p k (f ∷ fs) tables spent none =
      let no_place = unset_place L b p k fs f (none k (omega arith)) in
      each_step L b most (slot_place L b p k fs f) (named_slots L b p (suc k) fs) tables spent spent (rw no_place refl)
      ∙ unset p (suc k) fs tables spent (λ j h. none j (omega arith))

  -- behind the last slot that is stored
  slots_rest : (p k stored : ℕ) (xs : List FieldInfo) (tables spent : ℕ) → k ≡ stored
      → (stored < length xs → (j : ℕ) → stored ≤ j → slot_number b p j ≡ 0)
      → visit_each L b most (named_slots L b p k (slots_seen L (drop k xs))) tables spent ≡ Ok spent
  slots_rest p k stored xs tables spent is none = by_case (nat_le (length xs) k) refl
    where
      by_case : (c : Bool) → nat_le (length xs) k ≡ c → visit_each L b most
          (named_slots L b p k (slots_seen L (drop k xs))) tables spent ≡ Ok spent
      by_case true e = rw (drop_past xs k (leb-true _ _ e)) (unset_none p k tables spent)
      by_case false e = let less : k < length xs = grind (arith, nat_tests) in
          unset p k (slots_seen L (drop k xs)) tables spent (λ j h. none (omega (arith, is)) j (omega (arith, is)))

  -- where no slot behind it is stored
  pub slots_rest_free : (p k stored : ℕ) (xs : List FieldInfo) (tables spent mid : ℕ) → k ≡ stored
      → (stored < length xs → (j : ℕ) → stored ≤ j → slot_number b p j ≡ 0)
      → visit_each L b most (take k (named_slots L b p 0 (slots_seen L xs))) tables spent ≡ Ok mid
      → visit_each L b most (named_slots L b p 0 (slots_seen L xs)) tables spent ≡ Ok mid
  slots_rest_free p k stored xs tables spent mid is none before =
      let here : 0 + k ≡ k = omega arith in
      front_then (named_slots L b p 0 (slots_seen L xs)) k tables spent mid before
      ∙ (rw (named_drop L b p 0 k (slots_seen L xs), seen_drop L xs k, here)
      (slots_rest p k stored xs tables mid is none))

  -- none is computed at a place of the front, and the cells of all of them are spent
  pub front_free : (xs : List (Option Place)) (k tables spent after : ℕ)
      → visit_each L b most (take k xs) tables spent ≡ Ok after
      → ((j : ℕ) (y : Place) → j < k → slice_get xs j ≡ Some (Some y)
      → fault_from L b most y tables (spent + sum_over (all L b) (take j xs)) ≡ None)
      × (spent + sum_over (all L b) (take k xs) ≡ after)
  unfolding visit_each
  front_free xs k tables spent after fine =
      let none = none_left (first_among (λ y before. fault_from L b most y tables before) (all L b) spent (take k xs))
      _ after fine in (
        λ j y less names. let shorter = take-take j k xs (omega arith) in
            rw shorter at (among_none (λ y before. fault_from L b most y tables before) (all L b) spent (take k xs)
            none.0 j
            y (front_entry xs j k less ∙ names)),
        none.1,
      )

-- what a slot of a table names
pub slot_named : (L : LaidSchema) (b : Bytes) (p j k : ℕ) (fs : List Slot) (f : Slot) → slice_get fs k ≡ Some f
    → slice_get (named_slots L b p j fs) k ≡ Some (slot_place L b p (j + k) (drop (suc k) fs) f)
unfolding named_slots
slot_named L b p j k [] f e = cc
slot_named L b p j zero (g ∷ fs) f e =
    let is : g ≡ f = cc in
    let here : j + 0 ≡ j = omega arith in
    rw (here, is) refl
slot_named L b p j (suc k) (g ∷ fs) f e =
    let there : j + suc k ≡ suc j + k = omega arith in
    rw there (slot_named L b p (suc j) k fs f e)

slots_long : (L : LaidSchema) (b : Bytes) (p k : ℕ) (fs : List Slot) → length (named_slots L b p k fs) ≡ length fs
unfolding named_slots
slots_long L b p k [] = refl
slots_long L b p k (f ∷ fs) = ap suc (slots_long L b p (suc k) fs)

pub slots_whole : (L : LaidSchema) (b : Bytes) (p : ℕ) (xs : List FieldInfo)
    → length (named_slots L b p 0 (slots_seen L xs)) ≡ length xs
slots_whole L b p xs = slots_long L b p 0 (slots_seen L xs) ∙ seen_long L xs

-- the same of a field's slot
pub slot_found : (L : LaidSchema) (b : Bytes) (p k : ℕ) (xs : List FieldInfo) (x : FieldInfo) → k < length xs
    → x ≡ slice_index_or xs k x → slice_get (named_slots L b p 0 (slots_seen L xs)) k
    ≡ Some (slot_place L b p k (slots_seen L (drop (k + 1) xs)) (slot_seen L x))
slot_found L b p k xs x less is =
    let here : 0 + k ≡ k = omega arith in
    let one : k + 1 ≡ suc k = omega arith in
    let named = slot_named L b p 0 k (slots_seen L xs) (slot_seen L x) (slot_there L xs k x less is) in
    rw one (rw (here, seen_drop L xs (suc k)) at named)

-- what an element names
pub element_named : (X : Target) (p n i : ℕ) → i < n
    → slice_get (named_elements X p n) i ≡ Some (Some (record { sort = ref_place X; at = p + 4 * i }))
unfolding named_elements
element_named X p zero i less = absurd (omega arith)
element_named X p (suc n) zero less = let here : p + 4 * 0 ≡ p = omega arith in rw here refl
element_named X p (suc n) (suc i) less =
    let there : p + 4 * suc i ≡ p + 4 + 4 * i = omega arith in
    rw there (element_named X (p + 4) n i (omega arith))

pub elements_long : (X : Target) (p n : ℕ) → length (named_elements X p n) ≡ n
unfolding named_elements
elements_long X p zero = refl
elements_long X p (suc n) = ap suc (elements_long X (p + 4) n)
