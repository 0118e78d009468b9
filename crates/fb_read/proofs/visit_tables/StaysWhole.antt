-- What is at a place has only codes that the schema knows, where this holds of all that the place names.
use Rattle.std.proofs.Common.{◌≡◌, ℕ, zero, suc, ◌+◌, ◌<◌, ◌≤◌, List, [], ◌∷◌, length, slice_get, Option, None, Some}
use Rattle.std.proofs.Common.{Bool, true, ◌&&◌, ◌⊎◌, inl, inr, refl, sym, ap, ◌∙◌, arith, below_more}
use Rattle.std.proofs.lemmas.Bool.{cases_lt}
use Rattle.std.proofs.lemmas.List.{length-map}
use Rattle.std.proofs.lemmas.Option.{slice_get_within}
use Rattle.fb_schema.specs.declared.types.FieldInfo.{FieldInfo}
use Rattle.fb_layout.specs.Laid.{LaidSchema, Slot, StoredKind, scalar_kind, struct_kind, parts_of, slots_of, struct_at}
use Rattle.fb_layout.specs.Laid.{size_of}
use Rattle.fb_value.specs.Counts.{is_whole, parts_whole, entries_whole}
use Rattle.fb_value.specs.Datum.{Datum, a_number, a_text, a_vector, a_struct, a_table, a_member, Parts, no_parts}
use Rattle.fb_value.specs.Datum.{more_parts, SlotEntries, no_entries, absent_entry, present_entry, count}
use Rattle.fb_value.specs.Lies.{Element, Lies, LiesInline, LiesItems, LiesParts, LiesSlots}
use Rattle.fb_value.specs.Num.{Bytes, num}
use Rattle.fb_value.specs.Places.{Target, table_part, member_part, text_part, vector_part, ref_place, part_place}
use Rattle.fb_value.specs.Places.{inline_place, Place, named_slots, named_elements, target_of, slot_number}
use Rattle.fb_value.specs.Rules.{fault_by}
use Rattle.fb_read.specs.declared.buffer.Buffer.{Buffer}
use Rattle.fb_read.specs.declared.walk.Walk.{Walk}
use Rattle.fb_read.specs.Ends.{StaysWhole, slots_at}
use Rattle.fb_read.specs.Visits.{slots_seen}
use Rattle.fb_read.specs.Walks.{place}
use Rattle.fb_read.specs.Whole.{WholeAt, WholeEntry, WholeFront, WholeEach}
use Rattle.fb_value.proofs.reached.CellsAreThoseReached.{element_size}
use Rattle.fb_read.proofs.places.AbsentSlotNamesNoPlace.{unset_place}

both : (p q : Bool) → p ≡ true → q ≡ true → p && q ≡ true
both p q first rest = rw (first, rest) refl

-- ---- numbers and structs have no codes of unions

mutual
  inline_whole : (L : LaidSchema) (b : Bytes) (kind : StoredKind) (p : ℕ) (d : Datum) → LiesInline L b kind p d
      → is_whole d ≡ true
  inline_whole L b (scalar_kind base) p (a_number n) lies = refl
  inline_whole L b (struct_kind s) p (a_struct ds) lies =
      fields_whole L b (parts_of L s) (struct_at L s).offsets p ds lies
  inline_whole L b _ p _ lies = absurd lies

  fields_whole : (L : LaidSchema) (b : Bytes) (ks : List StoredKind) (os : List ℕ) (p : ℕ) (ds : Parts)
      → LiesParts L b ks os p ds → parts_whole ds ≡ true
  fields_whole L b [] os p no_parts lies = refl
  fields_whole L b (k ∷ ks) (o ∷ os) p (more_parts d ds) lies =
      both (is_whole d) (parts_whole ds) (inline_whole L b k (p + o) d lies.0) (fields_whole L b ks os p ds lies.1)
  fields_whole L b _ _ p _ lies = absurd lies

text_is_whole : (L : LaidSchema) (b : Bytes) (p : ℕ) (d : Datum) → Lies L b (part_place text_part) p d
    → is_whole d ≡ true
text_is_whole L b p (a_text bytes) lies = refl
text_is_whole L b p _ lies = absurd lies

module _ (buffer : Buffer) where
  pub inline_at : (kind : StoredKind) (p : ℕ) → WholeAt buffer (place (inline_place kind) p)
  inline_at kind p d lies = inline_whole buffer.layout.now buffer.bytes.now kind p d lies.1

  pub text_at : (p : ℕ) → WholeAt buffer (place (part_place text_part) p)
  text_at p d lies = text_is_whole buffer.layout.now buffer.bytes.now p d lies

  -- ---- behind a reference

  pub behind : (X : Target) (p q : ℕ) → q ≡ p + num buffer.bytes.now p 4
      → WholeAt buffer (place (part_place X) q) → WholeAt buffer (place (ref_place X) p)
  behind X p q is whole d lies = whole d (rw is lies.1)

  member_is_whole : (c t p : ℕ) (d : Datum)
      → ((e : Datum) → Lies buffer.layout.now buffer.bytes.now (part_place (table_part t)) p e → is_whole e ≡ true)
      → Lies buffer.layout.now buffer.bytes.now (part_place (member_part c t)) p d → is_whole d ≡ true
  member_is_whole c t p (a_member c2 e) whole lies = whole e lies.1
  member_is_whole c t p _ whole lies = absurd lies

  pub member_at : (c t p : ℕ) → WholeAt buffer (place (ref_place (table_part t)) p)
      → WholeAt buffer (place (ref_place (member_part c t)) p)
  unfolding fault_by
  member_at c t p whole d lies =
      member_is_whole c t (p + num buffer.bytes.now p 4) d (λ e there. whole e (lies.0, there)) lies.1

  -- ---- vectors

  element_whole : (kind : StoredKind) (p : ℕ) (o : Option Target) (d : Datum) → target_of kind ≡ o
      → Element buffer.layout.now buffer.bytes.now kind p o d (λ s q. Lies buffer.layout.now buffer.bytes.now s q d)
      → ((X : Target) → o ≡ Some X → WholeAt buffer (place (ref_place X) p)) → is_whole d ≡ true
  element_whole kind p None d is lies whole = inline_whole buffer.layout.now buffer.bytes.now kind p d lies
  element_whole kind p (Some X) d is lies whole = whole X refl d lies

  items_whole : (kind : StoredKind) (p : ℕ) (ds : Parts) → LiesItems buffer.layout.now buffer.bytes.now kind p ds
      → ((X : Target) → target_of kind ≡ Some X → WholeEach buffer (named_elements X p (count ds)))
      → parts_whole ds ≡ true
  unfolding named_elements
  items_whole kind p no_parts lies whole = refl
  items_whole kind p (more_parts d ds) lies whole =
      both (is_whole d) (parts_whole ds)
      (element_whole kind p (target_of kind) d refl lies.0 (λ X is. whole X is zero (place (ref_place X) p) refl))
      (items_whole kind (p + size_of buffer.layout.now kind) ds lies.1
      (λ X is. rw (element_size buffer.layout.now kind X is) (λ j x names. whole X is (suc j) x names)))

  vector_is_whole : (kind : StoredKind) (p : ℕ) (d : Datum)
      → ((X : Target) → target_of kind ≡ Some X
      → WholeEach buffer (named_elements X (p + 4) (num buffer.bytes.now p 4)))
      → Lies buffer.layout.now buffer.bytes.now (part_place (vector_part kind)) p d → is_whole d ≡ true
  vector_is_whole kind p (a_vector ds) whole lies =
      items_whole kind (p + 4) ds lies.2 (λ X is. rw lies.1 (whole X is))
  vector_is_whole kind p _ whole lies = absurd lies

  pub vector_at : (kind : StoredKind) (p : ℕ)
      → ((X : Target) → target_of kind ≡ Some X
      → WholeEach buffer (named_elements X (p + 4) (num buffer.bytes.now p 4)))
      → WholeAt buffer (place (part_place (vector_part kind)) p)
  vector_at kind p whole d lies = vector_is_whole kind p d whole lies

  -- ---- tables

  slots_whole : (fs : List Slot) (xs : List (Option Place)) (es : SlotEntries)
      → LiesSlots buffer.layout.now buffer.bytes.now fs xs es → WholeEach buffer xs → entries_whole es ≡ true
  slots_whole [] [] no_entries lies whole = refl
  slots_whole (f ∷ fs) (x ∷ xs) (absent_entry es) lies whole =
      slots_whole fs xs es lies.1 (λ j y names. whole (suc j) y names)
  slots_whole (f ∷ fs) (None ∷ xs) (present_entry d es) lies whole =
      both (is_whole d) (entries_whole es) (rw lies.0.2 refl)
      (slots_whole fs xs es lies.1 (λ j y names. whole (suc j) y names))
  slots_whole (f ∷ fs) (Some x ∷ xs) (present_entry d es) lies whole =
      both (is_whole d) (entries_whole es) (whole zero x refl d lies.0)
      (slots_whole fs xs es lies.1 (λ j y names. whole (suc j) y names))
  slots_whole _ _ _ lies whole = absurd lies

  table_is_whole : (t p : ℕ) (d : Datum)
      → WholeEach buffer (named_slots buffer.layout.now buffer.bytes.now p 0 (slots_of buffer.layout.now t))
      → Lies buffer.layout.now buffer.bytes.now (part_place (table_part t)) p d → is_whole d ≡ true
  table_is_whole t p (a_table type es) whole lies =
      slots_whole (slots_of buffer.layout.now t)
      (named_slots buffer.layout.now buffer.bytes.now p 0 (slots_of buffer.layout.now t)) es lies.2 whole
  table_is_whole t p _ whole lies = absurd lies

  pub table_at : (t p : ℕ)
      → WholeEach buffer (named_slots buffer.layout.now buffer.bytes.now p 0 (slots_of buffer.layout.now t))
      → WholeAt buffer (place (part_place (table_part t)) p)
  table_at t p whole d lies = table_is_whole t p d whole lies

  -- ---- one place after another

  entry_at : (o : Option Place) (x : Place) → o ≡ Some x → WholeEntry buffer o → WholeAt buffer x
  entry_at o x is whole = rw is at whole

  front_more : (xs : List (Option Place)) (k : ℕ) (o : Option Place) → slice_get xs k ≡ Some o
      → WholeFront buffer xs k → WholeEntry buffer o → WholeFront buffer xs (k + 1)
  front_more xs k o names before here =
      below_more (λ j. (x : Place) → slice_get xs j ≡ Some (Some x) → WholeAt buffer x) k before
      (λ x there. entry_at o x (let is : Some o ≡ Some (Some x) = sym names ∙ there in cc) here)

  -- All slots are whole where those are that are stored.
  pub unset_slot : (p k stored : ℕ) (fs : List Slot) (j : ℕ) (x : Place)
      → ((i : ℕ) → stored ≤ i → slot_number buffer.bytes.now p i ≡ 0) → stored ≤ k + j
      → slice_get (named_slots buffer.layout.now buffer.bytes.now p k fs) j ≡ Some (Some x) → ⊥
  unfolding named_slots
  unset_slot p k stored [] j x none past names = cc
  unset_slot p k stored (f ∷ fs) zero x none past names =
      let no_place = unset_place buffer.layout.now buffer.bytes.now p k fs f (none k (omega (arith, past))) in cc
  unset_slot p k stored (f ∷ fs) (suc j) x none past names =
      unset_slot p (suc k) stored fs j x none (omega (arith, past)) names

  pub slots_long : (p k : ℕ) (fs : List Slot)
      → length (named_slots buffer.layout.now buffer.bytes.now p k fs) ≡ length fs
  unfolding named_slots
  slots_long p k [] = refl
  slots_long p k (f ∷ fs) = ap suc (slots_long p (suc k) fs)

module _ {H : Type 0} (buffer : Buffer) (xs : List (Option Place)) (old mid new last : Walk H) where
  -- one place more
  pub next_whole : (k : ℕ) (o : Option Place) → slice_get xs k ≡ Some o → StaysWhole old mid (WholeFront buffer xs k)
      → StaysWhole mid new (WholeEntry buffer o) → last.whole ≡ new.whole
      → StaysWhole old last (WholeFront buffer xs (k + 1))
  next_whole k o names before here same whole =
      let passed = here (sym same ∙ whole) in
      let front = before passed.0 in
      (front.0, front_more buffer xs k o names front.1 passed.1)

  -- all elements
  pub elements_whole : (k : ℕ) → length xs ≡ k → StaysWhole old new (WholeFront buffer xs k)
      → StaysWhole old new (WholeEach buffer xs)
  elements_whole k long front whole =
      let passed = front whole in (
        passed.0,
        λ j x names. passed.1 j (let few = slice_get_within xs j (Some x) names in omega (arith, long, few)) x
            names,
      )

-- all slots, where the slots after the stored ones name no place
pub all_slots_whole : {H : Type 0} (buffer : Buffer) (p k stored : ℕ) (slots : List FieldInfo) (old new : Walk H)
    → k ≡ stored → (stored < length slots → (j : ℕ) → stored ≤ j → slot_number buffer.bytes.now p j ≡ 0)
    → StaysWhole old new (WholeFront buffer (slots_at buffer p slots) k)
    → StaysWhole old new (WholeEach buffer (slots_at buffer p slots))
all_slots_whole buffer p k stored slots old new is none front whole =
    let passed = front whole in
    (passed.0, λ j x names. by_case j x names passed.1 (cases_lt j k))
  where
    by_case : (j : ℕ) (x : Place) → slice_get (slots_at buffer p slots) j ≡ Some (Some x)
        → WholeFront buffer (slots_at buffer p slots) k → (j < k) ⊎ (k ≤ j) → WholeAt buffer x
    by_case j x names passed (inl less) = passed j less x names
    by_case j x names passed (inr more) =
        let few = slice_get_within (slots_at buffer p slots) j (Some x) names in
        let long = slots_long buffer p 0 (slots_seen buffer.layout.now slots) in
        let seen : length (slots_seen buffer.layout.now slots) ≡ length slots = simp length-map in
        absurd (unset_slot buffer p 0 stored (slots_seen buffer.layout.now slots) j x
        (none (omega (arith, few, long, seen, is, more))) (omega (arith, is, more)) names)
