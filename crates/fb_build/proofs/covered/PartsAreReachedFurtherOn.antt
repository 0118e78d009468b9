-- What is reached in bytes is reached further on where the same bytes stand further on.
use Rattle.std.proofs.Common.{◌≡◌, ℕ, ◌+◌, ◌^◌, ◌++◌, false, ◌&&◌, nat_lt, List, [], ◌∷◌, map, slice_index, Option}
use Rattle.std.proofs.Common.{None, Some, option_map, refl, ap, sym, ◌∙◌, arith}
use Rattle.std.proofs.lemmas.Bool.{not-true, and_parts}
use Rattle.std.proofs.lemmas.List.{map-append}
use Rattle.fb_layout.specs.Laid.{LaidSchema, Slot, StoredKind, slots_of, size_of}
use Rattle.fb_value.specs.Datum.{Datum, a_text, a_vector, a_table, a_member, Parts, no_parts, more_parts, SlotEntries}
use Rattle.fb_value.specs.Datum.{no_entries, absent_entry, present_entry}
use Rattle.fb_value.specs.Num.{Bytes, num}
use Rattle.fb_value.specs.Places.{Target, table_part, member_part, text_part, vector_part, Sort, ref_place, part_place}
use Rattle.fb_value.specs.Places.{Place, slot_number, named_slots, target_of}
use Rattle.fb_value.specs.Rules.{Aligned, fault_by, KeepsBy}
use Rattle.fb_value.specs.Lies.{BehindBy, EntryBy, PresentEntryBy, ElementBy, LiesBy, LiesItemsBy, LiesSlotsBy}
use Rattle.fb_value.proofs.rules.RulesHoldOneByOne.{rule_held}
use Rattle.fb_value.proofs.tails.SameBytesReadTheSameFurtherOn.{moved}
use Rattle.fb_build.specs.Pieces.{PartAt, reached_behind, reached_named, reached_element, reached, reached_items}
use Rattle.fb_build.specs.Pieces.{reached_entries}
use Rattle.fb_build.specs.CoveredTails.{part_further}
use Rattle.fb_value.proofs.tails.SameBytesReadTheSameFurtherOn.{number_moved, vtable_moved, slot_moved, all_named}

-- a table's vtable isn't before the bytes
pub table_inside : (al : Aligned) (L : LaidSchema) (b : Bytes) (t p : ℕ) → KeepsBy al L b (part_place (table_part t)) p
    → (nat_lt (num b p 4) (2 ^ 31) && nat_lt p (num b p 4)) ≡ false
unfolding fault_by
table_inside al L b t p h =
    let v = (rule_held _ _ _ (rule_held _ _ _ (rule_held _ _ _ h).1).1).0 in
    not-true _ (and_parts _ _ (and_parts _ _ (and_parts _ _ (and_parts _ _ (and_parts _ _ v).0).0).0).0).0

module _ (L : LaidSchema) (al : Aligned) (b c : Bytes) (k : ℕ) (bytes : (i : ℕ)
    → slice_index c (k + i) ≡ slice_index b i) where
  pub table_slots : (t p : ℕ) → KeepsBy al L b (part_place (table_part t)) p → (j : ℕ)
      → slot_number c (k + p) j ≡ slot_number b p j
  table_slots t p h j = slot_moved b c k bytes p j (vtable_moved b c k bytes p (table_inside al L b t p h))

  Known : Datum → Type 0
  Known d = (X : Target) (q : ℕ) → LiesBy al L b (part_place X) q d
      → reached L c X (k + q) d ≡ map (part_further k) (reached L b X q d)

  behind_further : (s : Sort) (p : ℕ) (d : Datum) → Known d → BehindBy al L b s p (λ s q. LiesBy al L b s q d)
      → reached_behind c s (k + p) (λ X q. reached L c X q d)
      ≡ map (part_further k) (reached_behind b s p (λ X q. reached L b X q d))
  unfolding Known
  behind_further (ref_place X) p d known lies =
      let at : (k + p) + num c (k + p) 4 ≡ k + (p + num b p 4) = omega (arith, number_moved b c k bytes p 4) in
      ap (λ q. reached L c X q d) at ∙ known X (p + num b p 4) lies.1
  behind_further (part_place X) p d known lies = known X p lies
  behind_further _ p d known lies = refl

  entry_further : (s : Sort) (p : ℕ) (d : Datum) → Known d → EntryBy al L b s p d (λ s q. LiesBy al L b s q d)
      → reached_behind c s (k + p) (λ X q. reached L c X q d)
      ≡ map (part_further k) (reached_behind b s p (λ X q. reached L b X q d))
  entry_further (ref_place X) p d known lies = behind_further (ref_place X) p d known lies
  entry_further (part_place X) p d known lies = behind_further (part_place X) p d known lies
  entry_further _ p d known lies = refl

  named_further : (f : Slot) (x : Option Place) (d : Datum) → Known d
      → PresentEntryBy al L b f x d (λ s q. LiesBy al L b s q d)
      → reached_named c (option_map (moved k) x) (λ X q. reached L c X q d)
      ≡ map (part_further k) (reached_named b x (λ X q. reached L b X q d))
  named_further f None d known lies = refl
  named_further f (Some x) d known lies = entry_further x.sort x.at d known lies

  element_further : (kind : StoredKind) (p : ℕ) (X : Option Target) (d : Datum) → Known d
      → ElementBy al L b kind p X d (λ s q. LiesBy al L b s q d)
      → reached_element c X (k + p) (λ X q. reached L c X q d)
      ≡ map (part_further k) (reached_element b X p (λ X q. reached L b X q d))
  element_further kind p None d known lies = refl
  element_further kind p (Some X) d known lies = behind_further (ref_place X) p d known lies

  joined : (xs ys us vs : List PartAt) → us ≡ map (part_further k) xs → vs ≡ map (part_further k) ys
      → us ++ vs ≡ map (part_further k) (xs ++ ys)
  joined xs ys us vs e h = rw (e, h) (sym (map-append (part_further k) xs ys))

  mutual
    unfolding Known

    pub reached_further : (X : Target) (p : ℕ) (d : Datum) → LiesBy al L b (part_place X) p d
        → reached L c X (k + p) d ≡ map (part_further k) (reached L b X p d)
    reached_further text_part p (a_text bs) lies = refl
    reached_further (vector_part kind) p (a_vector ds) lies =
        let at : (k + p) + 4 ≡ k + (p + 4) = omega arith in
        ap (λ xs. record { target = vector_part kind; at = k + p } ∷ xs) (ap (λ q. reached_items L c kind q ds) at
        ∙ items_further kind (p + 4) ds lies.2)
    reached_further (table_part t) p (a_table type es) lies =
        let named = all_named b c k bytes L p (table_slots t p lies.0) 0 (slots_of L t) in
        ap (λ xs. record { target = table_part t; at = k + p } ∷ xs) (ap (λ xs. reached_entries L c xs es) named
        ∙ entries_further (slots_of L t) (named_slots L b p 0 (slots_of L t)) es lies.2)
    reached_further (member_part e t) p (a_member e2 d) lies = reached_further (table_part t) p d lies.1
    reached_further _ p _ lies = absurd lies

    items_further : (kind : StoredKind) (p : ℕ) (ds : Parts) → LiesItemsBy al L b kind p ds
        → reached_items L c kind (k + p) ds ≡ map (part_further k) (reached_items L b kind p ds)
    items_further kind p no_parts lies = refl
    items_further kind p (more_parts d ds) lies =
        let at : (k + p) + size_of L kind ≡ k + (p + size_of L kind) = omega arith in
        joined _ _ _ _ (element_further kind p (target_of kind) d (λ X q is. reached_further X q d is) lies.0)
        (ap (λ q. reached_items L c kind q ds) at ∙ items_further kind (p + size_of L kind) ds lies.1)

    entries_further : (fs : List Slot) (xs : List (Option Place)) (es : SlotEntries) → LiesSlotsBy al L b fs xs es
        → reached_entries L c (map (option_map (moved k)) xs) es ≡ map (part_further k) (reached_entries L b xs es)
    entries_further [] [] no_entries lies = refl
    entries_further (f ∷ fs) (x ∷ xs) (absent_entry es) lies = entries_further fs xs es lies.1
    entries_further (f ∷ fs) (x ∷ xs) (present_entry d es) lies =
        joined _ _ _ _ (named_further f x d (λ X q is. reached_further X q d is) lies.0)
        (entries_further fs xs es lies.1)
    entries_further _ _ _ lies = absurd lies
