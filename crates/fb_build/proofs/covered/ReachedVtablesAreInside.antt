-- The vtables of all tables that are reached in bytes are in them, and so each part is as great further on.
use Rattle.std.proofs.Common.{◌≡◌, ℕ, ◌+◌, ◌-◌, ◌*◌, ◌^◌, ◌++◌, false, ◌&&◌, nat_lt, List, [], ◌∷◌, length, map}
use Rattle.std.proofs.Common.{slice_index, Option, None, Some, refl, ap, ◌∙◌, arith, length-append}
use Rattle.std.proofs.lemmas.List.{get_or-append-add}
use Rattle.fb_layout.specs.Laid.{LaidSchema, Slot, StoredKind, slots_of, size_of}
use Rattle.fb_value.specs.Datum.{Datum, a_text, a_vector, a_table, a_member, Parts, no_parts, more_parts, SlotEntries}
use Rattle.fb_value.specs.Datum.{no_entries, absent_entry, present_entry}
use Rattle.fb_value.specs.Num.{Bytes, num}
use Rattle.fb_value.specs.Places.{Target, table_part, member_part, text_part, vector_part, Sort, ref_place, part_place}
use Rattle.fb_value.specs.Places.{Place, vtable, named_slots, target_of}
use Rattle.fb_value.specs.Rules.{Aligned}
use Rattle.fb_value.specs.Lies.{BehindBy, EntryBy, PresentEntryBy, ElementBy, LiesBy, LiesItemsBy, LiesSlotsBy}
use Rattle.fb_value.specs.Tails.{from_end}
use Rattle.fb_build.specs.Pieces.{PartAt, reached_behind, reached_named, reached_element, reached, reached_items}
use Rattle.fb_build.specs.Pieces.{reached_entries, part_size, tables_vtables, part_piece}
use Rattle.fb_build.specs.CoveredTails.{part_further, piece_further, parts_in_tail, ReachedKeptInFront}
use Rattle.fb_value.proofs.tails.SameBytesReadTheSameFurtherOn.{number_moved, number_from, vtable_moved}
use Rattle.fb_build.proofs.covered.PartsAreReachedFurtherOn.{table_inside, reached_further}

-- of a table, its vtable isn't before the bytes
IsInside : Bytes → Target → ℕ → Type 0
IsInside b (table_part t) p = (nat_lt (num b p 4) (2 ^ 31) && nat_lt p (num b p 4)) ≡ false
IsInside b (member_part c t) p = (nat_lt (num b p 4) (2 ^ 31) && nat_lt p (num b p 4)) ≡ false
IsInside b _ p = Unit {0}

AreInside : Bytes → List PartAt → Type 0
AreInside b [] = Unit {0}
AreInside b (x ∷ xs) = IsInside b x.target x.at × AreInside b xs

both_inside : (b : Bytes) (xs ys : List PartAt) → AreInside b xs → AreInside b ys → AreInside b (xs ++ ys)
unfolding AreInside
both_inside b [] ys h g = g
both_inside b (x ∷ xs) ys h g = (h.0, both_inside b xs ys h.1 g)

module _ (L : LaidSchema) (al : Aligned) (b : Bytes) where
  Known : Datum → Type 0
  Known d = (X : Target) (q : ℕ) → LiesBy al L b (part_place X) q d → AreInside b (reached L b X q d)

  behind_inside : (s : Sort) (p : ℕ) (d : Datum) → Known d → BehindBy al L b s p (λ s q. LiesBy al L b s q d)
      → AreInside b (reached_behind b s p (λ X q. reached L b X q d))
  unfolding Known AreInside
  behind_inside (ref_place X) p d known lies = known X (p + num b p 4) lies.1
  behind_inside (part_place X) p d known lies = known X p lies
  behind_inside _ p d known lies = tt

  entry_inside : (s : Sort) (p : ℕ) (d : Datum) → Known d → EntryBy al L b s p d (λ s q. LiesBy al L b s q d)
      → AreInside b (reached_behind b s p (λ X q. reached L b X q d))
  unfolding AreInside
  entry_inside (ref_place X) p d known lies = behind_inside (ref_place X) p d known lies
  entry_inside (part_place X) p d known lies = behind_inside (part_place X) p d known lies
  entry_inside _ p d known lies = tt

  named_inside : (f : Slot) (x : Option Place) (d : Datum) → Known d
      → PresentEntryBy al L b f x d (λ s q. LiesBy al L b s q d)
      → AreInside b (reached_named b x (λ X q. reached L b X q d))
  unfolding AreInside
  named_inside f None d known lies = tt
  named_inside f (Some x) d known lies = entry_inside x.sort x.at d known lies

  element_inside : (kind : StoredKind) (p : ℕ) (X : Option Target) (d : Datum) → Known d
      → ElementBy al L b kind p X d (λ s q. LiesBy al L b s q d)
      → AreInside b (reached_element b X p (λ X q. reached L b X q d))
  unfolding AreInside
  element_inside kind p None d known lies = tt
  element_inside kind p (Some X) d known lies = behind_inside (ref_place X) p d known lies

  mutual
    unfolding Known AreInside IsInside

    reached_inside : (X : Target) (p : ℕ) (d : Datum) → LiesBy al L b (part_place X) p d
        → AreInside b (reached L b X p d)
    reached_inside text_part p (a_text bs) lies = (tt, tt)
    reached_inside (vector_part kind) p (a_vector ds) lies = (tt, items_inside kind (p + 4) ds lies.2)
    reached_inside (table_part t) p (a_table type es) lies =
        (table_inside al L b t p lies.0, entries_inside (slots_of L t) (named_slots L b p 0 (slots_of L t)) es lies.2)
    reached_inside (member_part e t) p (a_member e2 d) lies = reached_inside (table_part t) p d lies.1
    reached_inside _ p _ lies = absurd lies

    items_inside : (kind : StoredKind) (p : ℕ) (ds : Parts) → LiesItemsBy al L b kind p ds
        → AreInside b (reached_items L b kind p ds)
    items_inside kind p no_parts lies = tt
    items_inside kind p (more_parts d ds) lies =
        both_inside b _ _ (element_inside kind p (target_of kind) d (λ X q is. reached_inside X q d is) lies.0)
        (items_inside kind (p + size_of L kind) ds lies.1)

    entries_inside : (fs : List Slot) (xs : List (Option Place)) (es : SlotEntries) → LiesSlotsBy al L b fs xs es
        → AreInside b (reached_entries L b xs es)
    entries_inside [] [] no_entries lies = tt
    entries_inside (f ∷ fs) (x ∷ xs) (absent_entry es) lies = entries_inside fs xs es lies.1
    entries_inside (f ∷ fs) (x ∷ xs) (present_entry d es) lies =
        both_inside b _ _ (named_inside f x d (λ X q is. reached_inside X q d is) lies.0)
        (entries_inside fs xs es lies.1)
    entries_inside _ _ _ lies = absurd lies

module _ (L : LaidSchema) (b c : Bytes) (k : ℕ) (bytes : (i : ℕ) → slice_index c (k + i) ≡ slice_index b i) where
  pub table_size : (p : ℕ) → (nat_lt (num b p 4) (2 ^ 31) && nat_lt p (num b p 4)) ≡ false
      → num c (vtable c (k + p) + 2) 2 ≡ num b (vtable b p + 2) 2
  table_size p inside = number_from b c k bytes (vtable c (k + p) + 2) (vtable b p + 2) 2
      (omega (arith, vtable_moved b c k bytes p inside))

  size_further : (X : Target) (p : ℕ) → IsInside b X p → part_size L c X (k + p) ≡ part_size L b X p
  unfolding IsInside
  size_further text_part p inside = ap (λ n. (4 + n) + 1) (number_moved b c k bytes p 4)
  size_further (vector_part kind) p inside = ap (λ n. 4 + n * size_of L kind) (number_moved b c k bytes p 4)
  size_further _ p inside = table_size p inside

  pieces_further : (xs : List PartAt) → AreInside b xs
      → map (part_piece L c) (map (part_further k) xs) ≡ map (piece_further k) (map (part_piece L b) xs)
  unfolding AreInside
  pieces_further [] h = refl
  pieces_further (x ∷ xs) h = rw (size_further x.target x.at h.0, pieces_further xs h.1) refl

  vtables_step : (X : Target) (p : ℕ) (xs : List PartAt) → IsInside b X p
      → tables_vtables c (map (part_further k) xs) ≡ map (λ q. k + q) (tables_vtables b xs)
      → tables_vtables c (map (part_further k) (record { target = X; at = p } ∷ xs))
      ≡ map (λ q. k + q) (tables_vtables b (record { target = X; at = p } ∷ xs))
  unfolding IsInside
  vtables_step text_part p xs inside e = e
  vtables_step (vector_part kind) p xs inside e = e
  vtables_step _ p xs inside e = rw (vtable_moved b c k bytes p inside, e) refl

  vtables_further : (xs : List PartAt) → AreInside b xs
      → tables_vtables c (map (part_further k) xs) ≡ map (λ q. k + q) (tables_vtables b xs)
  unfolding AreInside
  vtables_further [] h = refl
  vtables_further (x ∷ xs) h = vtables_step x.target x.at xs h.0 (vtables_further xs h.1)

pub reached_front_shown : ReachedKeptInFront
reached_front_shown L m front s X e d h =
    let c = front ++ s in
    let k = length front in
    let p = length s - e in
    let whole : length c ≡ k + length s = length-append front s in
    let at : length c - e ≡ k + p = omega (arith, h.within, whole) in
    let bytes : (i : ℕ) → slice_index c (k + i) ≡ slice_index s i = λ i. get_or-append-add front s i 0 in
    let same : parts_in_tail L c X e d ≡ map (part_further k) (parts_in_tail L s X e d) =
    ap (λ q. reached L c X q d) at ∙ reached_further L (from_end s m) s c k bytes X p d h.lies in
    let inside = reached_inside L (from_end s m) s X p d h.lies in
    record {
      parts = same;
      pieces = ap (λ xs. map (part_piece L c) xs) same ∙ pieces_further L s c k bytes (parts_in_tail L s X e d) inside;
      vtables = ap (λ xs. tables_vtables c xs) same ∙ vtables_further L s c k bytes (parts_in_tail L s X e d) inside;
    }
