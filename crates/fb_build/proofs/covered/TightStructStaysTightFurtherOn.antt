-- Numbers and structs that have no slack have none where the same bytes stand further on.
use Rattle.std.proofs.Common.{◌≡◌, ℕ, ◌+◌, ◌-◌, ◌++◌, List, [], ◌∷◌, length, map, slice_index, Option, None, Some}
use Rattle.std.proofs.Common.{option_map, ap, sym, ◌∙◌, subst, arith, length-append}
use Rattle.std.proofs.lemmas.List.{get_or-append-add}
use Rattle.fb_layout.specs.Laid.{LaidSchema, Slot, StoredKind, scalar_kind, struct_kind, slots_of, parts_of, struct_at}
use Rattle.fb_layout.specs.Laid.{size_of}
use Rattle.fb_value.specs.Datum.{Datum, a_text, a_vector, a_struct, a_table, a_member, Parts, no_parts, more_parts}
use Rattle.fb_value.specs.Datum.{SlotEntries, no_entries, absent_entry, present_entry}
use Rattle.fb_value.specs.Num.{Bytes, num}
use Rattle.fb_value.specs.Places.{Target, table_part, member_part, text_part, vector_part, Sort, ref_place, part_place}
use Rattle.fb_value.specs.Places.{inline_place, Place, named_slots, target_of}
use Rattle.fb_value.specs.Rules.{Aligned}
use Rattle.fb_value.specs.Lies.{BehindBy, EntryBy, PresentEntryBy, ElementBy, LiesBy, LiesItemsBy, LiesSlotsBy}
use Rattle.fb_value.specs.Tails.{from_end}
use Rattle.fb_value.proofs.tails.SameBytesReadTheSameFurtherOn.{moved}
use Rattle.fb_build.specs.Stored.{IsBit}
use Rattle.fb_tape.specs.InlineBytes.{PadsStructWithZeros, IsTightInline, EachInlineIn, EachFieldIn, EachInlineNamed}
use Rattle.fb_tape.specs.InlineBytes.{EachInlineElement, EachInline, EachInlineItem, EachInlineEntry, EachInlineAt}
use Rattle.fb_build.specs.CoveredTails.{InlineKeptInFront}
use Rattle.fb_value.proofs.tails.SameBytesReadTheSameFurtherOn.{number_moved, vtable_moved, slot_moved, all_named}
use Rattle.fb_build.proofs.covered.PartsAreReachedFurtherOn.{table_inside}

module _ (L : LaidSchema) (al : Aligned) (b c : Bytes) (k : ℕ) (bytes : (i : ℕ)
    → slice_index c (k + i) ≡ slice_index b i) where
  still_padded : (s p : ℕ) → PadsStructWithZeros L b s p → PadsStructWithZeros L c s (k + p)
  still_padded s p h i low free = ap (λ j. slice_index c j) (omega arith) ∙ bytes (p + i) ∙ h i low free

  still_tight : (kind : StoredKind) (p : ℕ) → IsTightInline L b kind p → IsTightInline L c kind (k + p)
  still_tight (scalar_kind base) p h = subst (IsBit base) (sym (number_moved b c k bytes p 1)) h
  still_tight (struct_kind s) p h = still_padded s p h
  still_tight _ p h = tt

  mutual
    pub inline_moved : (kind : StoredKind) (p : ℕ) (d : Datum) → EachInlineIn L (IsTightInline L b) kind p d
        → EachInlineIn L (IsTightInline L c) kind (k + p) d
    inline_moved (scalar_kind base) p d h = still_tight (scalar_kind base) p h
    inline_moved (struct_kind s) p (a_struct ds) h =
        (still_tight (struct_kind s) p h.0, fields_moved (parts_of L s) (struct_at L s).offsets p ds h.1)
    inline_moved _ p _ h = tt

    fields_moved : (kinds : List StoredKind) (os : List ℕ) (p : ℕ) (ds : Parts)
        → EachFieldIn L (IsTightInline L b) kinds os p ds → EachFieldIn L (IsTightInline L c) kinds os (k + p) ds
    fields_moved (kind ∷ kinds) (o ∷ os) p (more_parts d ds) h =
        let at : k + (p + o) ≡ (k + p) + o = omega arith in (
          rw (← at) (inline_moved kind (p + o) d h.0),
          fields_moved kinds os p ds h.1,
        )
    fields_moved _ _ p _ h = tt

  Known : Datum → Type 0
  Known d = (X : Target) (q : ℕ) → LiesBy al L b (part_place X) q d → EachInline L b (IsTightInline L b) X q d
      → EachInline L c (IsTightInline L c) X (k + q) d

  behind_moved : (s : Sort) (p : ℕ) (d : Datum) → Known d → BehindBy al L b s p (λ s q. LiesBy al L b s q d)
      → EachInlineAt L b (IsTightInline L b) s p d → EachInlineAt L c (IsTightInline L c) s (k + p) d
  unfolding Known
  behind_moved (ref_place X) p d known lies h =
      let at : k + (p + num b p 4) ≡ (k + p) + num c (k + p) 4 = omega (arith, number_moved b c k bytes p 4) in
      rw (← at) (known X (p + num b p 4) lies.1 h)
  behind_moved (inline_place kind) p d known lies h = inline_moved kind p d h
  behind_moved (part_place X) p d known lies h = known X p lies h
  behind_moved _ p d known lies h = tt

  entry_moved : (s : Sort) (p : ℕ) (d : Datum) → Known d → EntryBy al L b s p d (λ s q. LiesBy al L b s q d)
      → EachInlineAt L b (IsTightInline L b) s p d → EachInlineAt L c (IsTightInline L c) s (k + p) d
  entry_moved (ref_place X) p d known lies h = behind_moved (ref_place X) p d known lies h
  entry_moved (inline_place kind) p d known lies h = inline_moved kind p d h
  entry_moved (part_place X) p d known lies h = behind_moved (part_place X) p d known lies h
  entry_moved _ p d known lies h = tt

  named_moved : (f : Slot) (x : Option Place) (d : Datum) → Known d
      → PresentEntryBy al L b f x d (λ s q. LiesBy al L b s q d)
      → EachInlineNamed L b (IsTightInline L b) x d (λ X q. EachInline L b (IsTightInline L b) X q d)
      → EachInlineNamed L c (IsTightInline L c) (option_map (moved k) x) d
      (λ X q. EachInline L c (IsTightInline L c) X q d)
  named_moved f None d known lies h = tt
  named_moved f (Some x) d known lies h = entry_moved x.sort x.at d known lies h

  element_moved : (kind : StoredKind) (p : ℕ) (X : Option Target) (d : Datum) → Known d
      → ElementBy al L b kind p X d (λ s q. LiesBy al L b s q d)
      → EachInlineElement L b (IsTightInline L b) kind X p d (λ X q. EachInline L b (IsTightInline L b) X q d)
      → EachInlineElement L c (IsTightInline L c) kind X (k + p) d (λ X q. EachInline L c (IsTightInline L c) X q d)
  element_moved kind p None d known lies h = inline_moved kind p d h
  element_moved kind p (Some X) d known lies h = behind_moved (ref_place X) p d known lies h

  mutual
    unfolding Known

    part_moved : (X : Target) (p : ℕ) (d : Datum) → LiesBy al L b (part_place X) p d
        → EachInline L b (IsTightInline L b) X p d → EachInline L c (IsTightInline L c) X (k + p) d
    part_moved text_part p (a_text bs) lies h = tt
    part_moved (vector_part kind) p (a_vector ds) lies h =
        let at : k + (p + 4) ≡ (k + p) + 4 = omega arith in
        rw (← at) (items_moved kind (p + 4) ds lies.2 h)
    part_moved (table_part t) p (a_table type es) lies h =
        let slots = λ (j : ℕ). slot_moved b c k bytes p j
        (vtable_moved b c k bytes p (table_inside al L b t p lies.0)) in
        rw (← (all_named b c k bytes L p slots 0 (slots_of L t))) at
        (entries_moved (slots_of L t) (named_slots L b p 0 (slots_of L t)) es lies.2 h)
    part_moved (member_part e t) p (a_member e2 d) lies h = part_moved (table_part t) p d lies.1 h
    part_moved _ p _ lies h = absurd lies

    pub items_moved : (kind : StoredKind) (p : ℕ) (ds : Parts) → LiesItemsBy al L b kind p ds
        → EachInlineItem L b (IsTightInline L b) kind p ds → EachInlineItem L c (IsTightInline L c) kind (k + p) ds
    items_moved kind p no_parts lies h = tt
    items_moved kind p (more_parts d ds) lies h =
        let at : k + (p + size_of L kind) ≡ (k + p) + size_of L kind = omega arith in (
          element_moved kind p (target_of kind) d (λ X q is each. part_moved X q d is each) lies.0 h.0,
          rw (← at) (items_moved kind
              (p + size_of L kind) ds lies.1 h.1),
        )

    entries_moved : (fs : List Slot) (xs : List (Option Place)) (es : SlotEntries) → LiesSlotsBy al L b fs xs es
        → EachInlineEntry L b (IsTightInline L b) xs es
        → EachInlineEntry L c (IsTightInline L c) (map (option_map (moved k)) xs) es
    entries_moved [] [] no_entries lies h = tt
    entries_moved (f ∷ fs) (x ∷ xs) (absent_entry es) lies h = entries_moved fs xs es lies.1 h
    entries_moved (f ∷ fs) (x ∷ xs) (present_entry d es) lies h =
        (named_moved f x d (λ X q is each. part_moved X q d is each) lies.0 h.0, entries_moved fs xs es lies.1 h.1)
    entries_moved _ _ _ lies h = absurd lies

  pub at_moved : (s : Sort) (p : ℕ) (d : Datum) → BehindBy al L b s p (λ s q. LiesBy al L b s q d)
      → EachInlineAt L b (IsTightInline L b) s p d → EachInlineAt L c (IsTightInline L c) s (k + p) d
  unfolding Known
  at_moved s p d lies h = behind_moved s p d (λ X q is each. part_moved X q d is each) lies h

pub inline_front_shown : InlineKeptInFront
inline_front_shown L m front s sort e d h inline =
    let whole : length (front ++ s) ≡ length front + length s = length-append front s in
    let at : length front + (length s - e) ≡ length (front ++ s) - e = omega (arith, h.within, whole) in
    rw (← at) (at_moved L (from_end s m) s (front ++ s) (length front) (λ i. get_or-append-add front s i 0) sort
    (length s - e) d
    h.lies inline)
