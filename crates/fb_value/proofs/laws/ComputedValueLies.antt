-- What is computed at a place lies there.
use Rattle.std.proofs.Common.{◌≡◌, ℕ, zero, suc, ◌+◌, List, [], ◌∷◌, Option, None, Some, ℤ, refl, ap, subst}
use Rattle.fb_value.specs.declared.faults.ReadFault.{ReadFault}
use Rattle.fb_value.specs.Datum.{Datum, a_text, a_vector, a_struct, a_table, a_member, an_unknown, Parts, no_parts}
use Rattle.fb_value.specs.Datum.{more_parts, SlotEntries, no_entries, absent_entry, present_entry, count}
use Rattle.fb_value.specs.Num.{Bytes, num, part_of}
use Rattle.fb_layout.specs.Laid.{LaidSchema, Slot, StoredKind, scalar_kind, struct_kind, slots_of, parts_of, struct_at}
use Rattle.fb_layout.specs.Laid.{size_of}
use Rattle.fb_value.specs.Places.{Target, table_part, member_part, text_part, vector_part, Sort, ref_place, part_place}
use Rattle.fb_value.specs.Places.{inline_place, code_place, unknown_place, Place, named_slots, target_of}
use Rattle.fb_value.specs.Lies.{LiesInline, LiesParts, EntryAt, Element, Lies, LiesItems, LiesSlots, LiesAt}
use Rattle.fb_value.specs.Reads.{unless, ◌>>=◌, parts_at, inline_at, through, element_at, items_at, default_entry}
use Rattle.fb_value.specs.Reads.{entry_at, slots_at, datum_at}

-- What is read is there only where no rule fails.
pub unless_some : {A : Type 0} (f : Option ReadFault) (r : Option A) (x : A) → unless f r ≡ Some x
    → (f ≡ None) × (r ≡ Some x)
unless_some None r x e = (refl, e)
unless_some (Some f) r x e = cc

-- What is made of a value is there only where the value is.
pub bind_some : {A B : Type 0} (r : Option A) (f : A → Option B) (y : B) → (r >>= f) ≡ Some y
    → (x : A) × (r ≡ Some x) × (f x ≡ Some y)
bind_some None f y e = cc
bind_some (Some x) f y e = (x, refl, e)

-- One value is there.
pub same_some : {A : Type 0} (x y : A) → Some x ≡ Some y → x ≡ y
same_some x y e = cc

-- the fields of a struct, once each kind is known
parts_sound : (L : LaidSchema) (b : Bytes) (fuel : ℕ)
    → ((k : StoredKind) (q : ℕ) (d : Datum) → inline_at fuel L b k q ≡ Some d → LiesInline L b k q d)
    → (ks : List StoredKind) (os : List ℕ) (p : ℕ) (ds : Parts)
    → parts_at (λ k q. inline_at fuel L b k q) ks os p ≡ Some ds → LiesParts L b ks os p ds
unfolding parts_at
parts_sound L b fuel known [] os p ds e = rw (← (same_some no_parts ds e)) tt
parts_sound L b fuel known (k ∷ ks) [] p ds e = cc
parts_sound L b fuel known (k ∷ ks) (o ∷ os) p ds e =
    let first = bind_some _ _ _ e in
    let rest = bind_some _ _ _ first.2 in
    subst (λ (x : Parts). LiesParts L b (k ∷ ks) (o ∷ os) p x) (same_some (more_parts first.0 rest.0) ds rest.2)
    (known k (p + o) first.0 first.1, parts_sound L b fuel known ks os p rest.0 rest.1)

-- The number or struct that is computed stands there.
pub inline_sound : (fuel : ℕ) (L : LaidSchema) (b : Bytes) (kind : StoredKind) (p : ℕ) (d : Datum)
    → inline_at fuel L b kind p ≡ Some d → LiesInline L b kind p d
unfolding inline_at
inline_sound zero L b kind p d e = cc
inline_sound (suc fuel) L b (scalar_kind base) p d e = rw (← (same_some _ d e)) refl
inline_sound (suc fuel) L b (struct_kind s) p d e =
    let found = bind_some _ _ _ e in
    subst (λ (x : Datum). LiesInline L b (struct_kind s) p x) (same_some (a_struct found.0) d found.2)
    (parts_sound L b fuel (λ k q x h. inline_sound fuel L b k q x h) (parts_of L s) (struct_at L s).offsets p found.0
    found.1)
inline_sound (suc fuel) L b _ p d e = cc

module _ (L : LaidSchema) (b : Bytes) (fuel : ℕ) (known : (s : Sort) (q : ℕ) (d : Datum) → datum_at fuel L b s q
    ≡ Some d → Lies L b s q d) where
  -- What is computed through a reference lies behind it.
  through_sound : (s : Sort) (p : ℕ) (d : Datum) → through L b s p (λ s q. datum_at fuel L b s q) ≡ Some d
      → LiesAt L b s p d
  through_sound (ref_place X) p d e =
      let found = unless_some _ _ _ e in
      (found.0, known (part_place X) _ d found.1)
  through_sound (part_place X) p d e = known (part_place X) p d e
  through_sound (inline_place kind) p d e = known (inline_place kind) p d e
  through_sound _ p d e = cc

  -- The element that is computed lies there.
  element_sound : (kind : StoredKind) (p : ℕ) (X : Option Target) (d : Datum)
      → element_at L b kind p X (λ s q. datum_at fuel L b s q) (λ k q. inline_at fuel L b k q) ≡ Some d
      → Element L b kind p X d (λ s q. Lies L b s q d)
  element_sound kind p None d e = inline_sound fuel L b kind p d e
  element_sound kind p (Some X) d e = through_sound (ref_place X) p d e

  -- The elements that are computed lie there, as many as were asked for.
  items_sound : (kind : StoredKind) (p n : ℕ) (ds : Parts)
      → items_at L b (λ s q. datum_at fuel L b s q) (λ k q. inline_at fuel L b k q) kind p n ≡ Some ds
      → (count ds ≡ n) × LiesItems L b kind p ds
  unfolding items_at
  items_sound kind p zero ds e = let P : Parts → Type 0 = λ x. (count x ≡ 0) × LiesItems L b kind p x in
      subst P (same_some no_parts ds e) (refl, tt)
  items_sound kind p (suc n) ds e =
      let first = bind_some _ _ _ e in
      let rest = bind_some _ _ _ first.2 in
      let P : Parts → Type 0 = λ x. (count x ≡ suc n) × LiesItems L b kind p x in
      let more = items_sound kind (p + size_of L kind) n rest.0 rest.1 in
      subst P (same_some (more_parts first.0 rest.0) ds rest.2)
      (ap suc more.0, (element_sound kind p (target_of kind) first.0 first.1, more.1))

  -- what a slot's entry is, with the entries after it
  default_sound : (f : Slot) (fs : List Slot) (xs : List (Option Place)) (o : Option ℤ) (rest ss : SlotEntries)
      → f.if_absent ≡ o → LiesSlots L b fs xs rest → default_entry o rest ≡ ss → LiesSlots L b (f ∷ fs) (None ∷ xs) ss
  default_sound f fs xs None rest ss is lies e = rw (← e) (is, lies)
  default_sound f fs xs (Some n) rest ss is lies e = rw (← e) ((n, is, refl), lies)

  -- What lies at a place is its entry.
  as_entry : (s : Sort) (p : ℕ) (d : Datum) → LiesAt L b s p d → EntryAt L b s p d (λ s q. Lies L b s q d)
  as_entry (unknown_place c) p d lies = absurd lies
  as_entry _ p d lies = lies

  -- An entry that is read is the slot's, in front of the later ones.
  present_sound : (s : Sort) (p : ℕ) (f : Slot) (fs : List Slot) (xs : List (Option Place)) (rest ss : SlotEntries)
      → (through L b s p (λ s q. datum_at fuel L b s q) >>= λ d. Some (present_entry d rest)) ≡ Some ss
      → LiesSlots L b fs xs rest → LiesSlots L b (f ∷ fs) (Some (record { sort = s; at = p }) ∷ xs) ss
  present_sound s p f fs xs rest ss e lies =
      let found = bind_some _ _ _ e in
      subst (λ (x : SlotEntries). LiesSlots L b (f ∷ fs) (Some (record { sort = s; at = p }) ∷ xs) x)
      (same_some (present_entry found.0 rest) ss found.2) (
        as_entry s p found.0 (through_sound s p found.0 found.1),
        lies,
      )

  -- The entry that is computed at a place is the slot's.
  entry_sound : (s : Sort) (p : ℕ) (f : Slot) (fs : List Slot) (xs : List (Option Place)) (rest ss : SlotEntries)
      → entry_at L b (λ s q. datum_at fuel L b s q) s p rest ≡ Some ss → LiesSlots L b fs xs rest
      → LiesSlots L b (f ∷ fs) (Some (record { sort = s; at = p }) ∷ xs) ss
  entry_sound (code_place u k required here) p f fs xs rest ss e lies =
      let found = unless_some _ _ _ e in
      rw (← (same_some (absent_entry rest) ss found.1)) (found.0, lies)
  entry_sound (unknown_place c) p f fs xs rest ss e lies =
      rw (← (same_some (present_entry (an_unknown c) rest) ss e)) (refl, lies)
  entry_sound (ref_place X) p f fs xs rest ss e lies = present_sound (ref_place X) p f fs xs rest ss e lies
  entry_sound (part_place X) p f fs xs rest ss e lies = present_sound (part_place X) p f fs xs rest ss e lies
  entry_sound (inline_place kind) p f fs xs rest ss e lies = present_sound (inline_place kind) p f fs xs rest ss e lies

  -- The entries that are computed are those of the slots.
  slots_sound : (fs : List Slot) (xs : List (Option Place)) (ss : SlotEntries)
      → slots_at L b (λ s q. datum_at fuel L b s q) fs xs ≡ Some ss → LiesSlots L b fs xs ss
  unfolding slots_at
  slots_sound [] [] ss e = rw (← (same_some no_entries ss e)) tt
  slots_sound [] (x ∷ xs) ss e = cc
  slots_sound (f ∷ fs) [] ss e = cc
  slots_sound (f ∷ fs) (None ∷ xs) ss e =
      let rest = bind_some _ _ _ e in
      default_sound f fs xs _ rest.0 ss refl (slots_sound fs xs rest.0 rest.1) (same_some _ ss rest.2)
  slots_sound (f ∷ fs) (Some x ∷ xs) ss e =
      let rest = bind_some _ _ _ e in
      entry_sound x.sort x.at f fs xs rest.0 ss rest.2 (slots_sound fs xs rest.0 rest.1)

-- What is computed at a place lies there.
pub sound : (fuel : ℕ) (L : LaidSchema) (b : Bytes) (s : Sort) (p : ℕ) (d : Datum) → datum_at fuel L b s p ≡ Some d
    → Lies L b s p d
unfolding datum_at
sound zero L b s p d e = cc
sound (suc fuel) L b (inline_place kind) p d e =
    let found = unless_some _ _ _ e in
    (found.0, inline_sound (suc fuel) L b kind p d found.1)
sound (suc fuel) L b (part_place text_part) p d e =
    let found = unless_some _ _ _ e in
    rw (← (same_some (a_text (part_of b (p + 4) (num b p 4))) d found.1)) (found.0, refl)
sound (suc fuel) L b (part_place (vector_part kind)) p d e =
    let found = unless_some _ _ _ e in
    let ds = bind_some _ _ _ found.1 in
    let lies = items_sound L b fuel (λ s q x h. sound fuel L b s q x h) kind (p + 4) (num b p 4) ds.0 ds.1 in
    subst (λ (x : Datum). Lies L b (part_place (vector_part kind)) p x) (same_some (a_vector ds.0) d ds.2)
    (found.0, lies.0, lies.1)
sound (suc fuel) L b (part_place (table_part t)) p d e =
    let found = unless_some _ _ _ e in
    let ss = bind_some _ _ _ found.1 in
    let lies = slots_sound L b fuel (λ s q x h. sound fuel L b s q x h) (slots_of L t)
    (named_slots L b p 0 (slots_of L t)) ss.0 ss.1 in
    subst (λ (x : Datum). Lies L b (part_place (table_part t)) p x) (same_some (a_table t ss.0) d ss.2)
    (found.0, refl, lies)
sound (suc fuel) L b (part_place (member_part c t)) p d e =
    let found = bind_some _ _ _ e in
    subst (λ (x : Datum). Lies L b (part_place (member_part c t)) p x) (same_some (a_member c found.0) d found.2)
    (refl, sound fuel L b (part_place (table_part t)) p found.0 found.1)
sound (suc fuel) L b _ p d e = cc
