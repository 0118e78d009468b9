-- The value that bytes hold fits the root, where each byte is below 256.
use Rattle.std.proofs.Common.{◌≡◌, ℕ, zero, suc, ◌+◌, ◌<◌, List, [], ◌∷◌, All, Option, None, Some, refl, arith}
use Rattle.std.proofs.lemmas.Bool.Decides.{nat_tests}
use Rattle.fb_layout.specs.Laid.{LaidSchema, StoredKind, scalar_kind, struct_kind, table_kind, text_kind, one_of}
use Rattle.fb_layout.specs.Laid.{parts_of, struct_at, size_of}
use Rattle.fb_layout.specs.WellMade.{IsWellMade}
use Rattle.fb_value.specs.Datum.{Datum, a_number, a_text, a_vector, a_struct, a_table, a_member, Parts, no_parts}
use Rattle.fb_value.specs.Datum.{more_parts, SlotEntries, no_entries, absent_entry, present_entry}
use Rattle.fb_value.specs.Num.{Bytes, num, part_of}
use Rattle.fb_value.specs.Places.{Target, table_part, member_part, text_part, vector_part, Sort, part_place}
use Rattle.fb_value.specs.Places.{inline_place, target_of}
use Rattle.fb_value.specs.Rules.{Keeps, fault_by}
use Rattle.fb_value.specs.Lies.{LiesInline, LiesParts, Element, Lies, LiesItems}
use Rattle.fb_value.specs.Fits.{Fits, PartsFit, EachFits}
use Rattle.fb_value.specs.Nth.{nth_entry}
use Rattle.fb_value.specs.Laws.{FitsWhereHeld}
use Rattle.fb_value.proofs.rules.RulesHoldOneByOne.{rule_held}
use Rattle.fb_value.proofs.reached.CellsAreThoseReached.{text_length}
use Rattle.fb_value.proofs.types.NestingIsBoundedByDepth.{root_fits}
use Rattle.fb_value.proofs.held.NumbersAreInTheirRange.{number_ranges, utf8_whole}
use Rattle.fb_value.proofs.laws.EntryFitsItsSlot.{SortFits, KnownFit}
use Rattle.fb_value.proofs.laws.EntriesFitTheirTable.{table_fits}

module _ (L : LaidSchema) (made : IsWellMade L) (b : Bytes) (small : All (λ x. x < 256) b) where
  mutual
    -- numbers and structs
    inline_fits : (kind : StoredKind) (p : ℕ) (d : Datum) → LiesInline L b kind p d → Fits L (one_of kind) d
    inline_fits (scalar_kind base) p (a_number n) lies = rw lies (number_ranges b small base p)
    inline_fits (struct_kind s) p (a_struct ds) lies = parts_fit (parts_of L s) (struct_at L s).offsets p ds lies
    inline_fits _ p _ lies = absurd lies

    parts_fit : (ks : List StoredKind) (os : List ℕ) (p : ℕ) (ds : Parts) → LiesParts L b ks os p ds → PartsFit L ks ds
    parts_fit [] os p no_parts lies = tt
    parts_fit (k ∷ ks) (o ∷ os) p (more_parts d ds) lies = (inline_fits k (p + o) d lies.0, parts_fit ks os p ds lies.1)
    parts_fit _ _ p _ lies = absurd lies

  -- a text that keeps its rules
  text_fits : (p : ℕ) (bytes : List ℕ) → Keeps L b (part_place text_part) p → bytes ≡ part_of b (p + 4) (num b p 4)
      → Fits L (one_of text_kind) (a_text bytes)
  unfolding fault_by
  text_fits p bytes keeps is =
      let valid = (rule_held _ _ _ (rule_held _ _ _ (rule_held _ _ _ (rule_held _ _ _ keeps).1).1).1).0 in
      let long = text_length L b p keeps in
      rw is (utf8_whole (part_of b (p + 4) (num b p 4)) (grind (arith, nat_tests)))

  -- an element in its place or behind its reference
  element_fits : (kind : StoredKind) (p : ℕ) (o : Option Target) (d : Datum) → target_of kind ≡ o → KnownFit L b d
      → Element L b kind p o d (λ s q. Lies L b s q d) → Fits L (one_of kind) d
  element_fits kind p None d is known lies = inline_fits kind p d lies
  element_fits text_kind p (Some X) d is known lies = let same : text_part ≡ X = cc in
      known (part_place text_part) (p + num b p 4) (rw same lies.1)
  element_fits (table_kind t) p (Some X) d is known lies = let same : table_part t ≡ X = cc in
      known (part_place (table_part t)) (p + num b p 4) (rw same lies.1)
  element_fits _ p (Some X) d is known lies = cc

  mutual
    part_fits : (s : Sort) (p : ℕ) (d : Datum) → Lies L b s p d → SortFits L s d
    part_fits (inline_place kind) p d lies = inline_fits kind p d lies.1
    part_fits (part_place text_part) p (a_text bytes) lies = text_fits p bytes lies.0 lies.1
    part_fits (part_place (vector_part kind)) p (a_vector ds) lies = items_fit kind (p + 4) ds lies.2
    part_fits (part_place (table_part t)) p (a_table type es) lies =
        (lies.1, table_fits L made b small t p es lies.0 lies.2 (λ k d e s q at. entries_known es k d e s q at))
    part_fits (part_place (member_part c t)) p (a_member c2 d) lies =
        (d, rw lies.0 refl, part_fits (part_place (table_part t)) p d lies.1)
    part_fits _ p _ lies = absurd lies

    items_fit : (kind : StoredKind) (p : ℕ) (ds : Parts) → LiesItems L b kind p ds → EachFits L kind ds
    items_fit kind p no_parts lies = tt
    items_fit kind p (more_parts d ds) lies = (
      element_fits kind p (target_of kind) d refl (λ s q at. part_fits s q d at) lies.0,
      items_fit kind (p + size_of L kind) ds lies.1,
    )

    entries_known : (es : SlotEntries) (k : ℕ) (d : Datum) → nth_entry es k ≡ Some d → (s : Sort) (q : ℕ)
        → Lies L b s q d → SortFits L s d
    entries_known no_entries k d e s q at = cc
    entries_known (absent_entry es) zero d e s q at = cc
    entries_known (absent_entry es) (suc k) d e s q at = entries_known es k d e s q at
    entries_known (present_entry x es) zero d e s q at = let is : x ≡ d = cc in
        rw (← is) (part_fits s q x (rw is at))
    entries_known (present_entry x es) (suc k) d e s q at = entries_known es k d e s q at

-- The value that bytes hold fits the root.
pub fits_where_held_shown : FitsWhereHeld
fits_where_held_shown p fault L most b v made small holds =
    (root_fits L v made).1 (part_fits L made b small (part_place (table_part L.schema.root)) (p + num b p 4) v
    holds.lies.1)
