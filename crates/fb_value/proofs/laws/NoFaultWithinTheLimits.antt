-- Where a value lies, no fault stands exactly where its depth and cells are within the limits.
use Rattle.std.proofs.Common.{◌≡◌, ℕ, zero, suc, ◌+◌, ◌≤◌, ◌↔◌, max, List, [], ◌∷◌, length, Option, None, Some}
use Rattle.std.proofs.Common.{slice_get, refl, sym, ap, ◌∙◌, arith}
use Rattle.fb_value.specs.Datum.{Datum, a_number, a_text, a_vector, a_struct, a_table, a_member, Parts, no_parts}
use Rattle.fb_value.specs.Datum.{more_parts, SlotEntries, no_entries, absent_entry, present_entry, count}
use Rattle.fb_value.specs.Counts.{cells, parts_cells, entries_cells, depth, parts_depth, entries_depth}
use Rattle.fb_value.specs.Num.{Bytes, num}
use Rattle.fb_layout.specs.Laid.{LaidSchema, Slot, StoredKind, scalar_kind, struct_kind, table_kind, text_kind}
use Rattle.fb_layout.specs.Laid.{slots_of, parts_of, struct_at, size_of}
use Rattle.fb_value.specs.Places.{Target, table_part, member_part, text_part, vector_part, Sort, ref_place, part_place}
use Rattle.fb_value.specs.Places.{inline_place, Place, named, named_slots, named_elements, target_of}
use Rattle.fb_value.specs.Rules.{Keeps, fault_by}
use Rattle.fb_value.specs.Lies.{LiesInline, LiesParts, Element, Lies, LiesItems, LiesSlots, LiesAt}
use Rattle.fb_value.specs.Bounds.{Bounds}
use Rattle.fb_value.specs.Faults.{all, limited_fault, first_fault, levels, fault_from}
use Rattle.fb_value.proofs.rules.ComputedFaultIsTheLeast.{Enough, enough_below, levels_enough}
use Rattle.fb_value.proofs.reached.CellsAreThoseReached.{text_length, behind_cells, part_cells, element_size}
use Rattle.fb_value.proofs.reached.CellsAreThoseReached.{inline_cells}
use Rattle.fb_value.proofs.laws.NamedPlacesWithinTheLimits.{IsWithin, Sure, SureWhereItLies, table_limits, cell_limits}
use Rattle.fb_value.proofs.laws.NamedPlacesWithinTheLimits.{place_fault, behind_sure, quiet, AmongSure, EnoughFor}
use Rattle.fb_value.proofs.laws.NamedPlacesWithinTheLimits.{later_enough, more_sure, absent_sure, present_sure}
use Rattle.fb_value.proofs.laws.NamedPlacesWithinTheLimits.{slots_sure_nil}

mutual
  -- What stands in its place holds no table.
  inline_depth : (L : LaidSchema) (b : Bytes) (kind : StoredKind) (p : ℕ) (d : Datum) → LiesInline L b kind p d
      → depth d ≡ 0
  inline_depth L b (scalar_kind base) p (a_number n) lies = refl
  inline_depth L b (struct_kind s) p (a_struct ds) lies =
      parts_flat L b (parts_of L s) (struct_at L s).offsets p ds lies
  inline_depth L b _ p _ lies = absurd lies

  -- Nor do the parts of a struct.
  parts_flat : (L : LaidSchema) (b : Bytes) (ks : List StoredKind) (os : List ℕ) (p : ℕ) (ds : Parts)
      → LiesParts L b ks os p ds → parts_depth ds ≡ 0
  parts_flat L b [] os p no_parts lies = refl
  parts_flat L b (k ∷ ks) (o ∷ os) p (more_parts d ds) lies =
      omega (arith, inline_depth L b k (p + o) d lies.0, parts_flat L b ks os p ds lies.1)
  parts_flat L b _ _ p _ lies = absurd lies

-- A number or struct in its place is sure.
inline_sure : (L : LaidSchema) (b : Bytes) (most : Bounds) (kind : StoredKind) (p : ℕ) (d : Datum)
    (fuel tables spent : ℕ) → Lies L b (inline_place kind) p d → Enough b p fuel → tables ≤ most.depth
    → spent ≤ most.cells
    → Sure L b most fuel (record { sort = inline_place kind; at = p }) tables spent (depth d) (cells d)
unfolding Sure IsWithin
inline_sure L b most kind p d fuel tables spent lies enough h i =
    let flat = inline_depth L b kind p d lies.1 in
    let free = inline_cells L b kind p d lies.1 in (
      (λ e. (omega arith, omega arith)),
      λ bounds. quiet L b most fuel (inline_place kind) p tables spent refl refl
          lies.0 enough,
    )

-- A text is sure.
text_sure : (L : LaidSchema) (b : Bytes) (most : Bounds) (p n : ℕ) (fuel tables spent : ℕ)
    → Keeps L b (part_place text_part) p → n ≡ num b p 4 → Enough b p fuel → tables ≤ most.depth → spent ≤ most.cells
    → Sure L b most fuel (record { sort = part_place text_part; at = p }) tables spent 0 (1 + n)
unfolding Sure IsWithin Enough
text_sure L b most p n zero tables spent keeps is enough h i = absurd (omega arith)
text_sure L b most p n (suc fuel) tables spent keeps is enough h i =
    let place = place_fault fuel L b most (part_place text_part) p tables spent keeps in
    let limits = cell_limits most p (spent + (1 + num b p 4)) in (
      λ e. let s = limits.0 (place.0 e).0 in
          (omega arith, omega arith),
      λ bounds. place.1 (limits.1 (omega arith), refl),
    )

-- A table is sure where its slots are.
table_sure : (L : LaidSchema) (b : Bytes) (most : Bounds) (t p fuel tables spent deep small : ℕ)
    → Keeps L b (part_place (table_part t)) p → Enough b p fuel
    → ((fuel tables spent : ℕ) → tables ≤ most.depth → spent ≤ most.cells
    → EnoughFor b fuel (named_slots L b p 0 (slots_of L t))
    → AmongSure L b most fuel (named_slots L b p 0 (slots_of L t)) tables spent deep small)
    → Sure L b most fuel (record { sort = part_place (table_part t); at = p }) tables spent (suc deep) (1 + small)
unfolding Sure AmongSure IsWithin Enough EnoughFor
table_sure L b most t p zero tables spent deep small keeps enough slots = absurd (omega arith)
table_sure L b most t p (suc fuel) tables spent deep small keeps enough slots =
    let place = place_fault fuel L b most (part_place (table_part t)) p tables spent keeps in
    let limits = table_limits most p (tables + 1) (spent + 1) in
    let below = λ (k : ℕ) (y : Place) (names : slice_get (named_slots L b p 0 (slots_of L t)) k ≡ Some (Some y)).
    enough_below L b (part_place (table_part t)) p fuel k y enough keeps names in (
      λ e.
          let own = limits.0 (place.0 e).0 in
          let others = (slots fuel (tables + 1) (spent + 1) own.0 own.1 below).0 (place.0 e).1 in
          (omega arith, omega arith),
      λ bounds.
          let one : tables + 1 ≤ most.depth = omega arith in
          let two : spent + 1 ≤ most.cells = omega arith in
          place.1 (
            limits.1 (one, two),
            (slots fuel (tables + 1) (spent + 1) one two below).1
                (omega arith, omega arith),
          ),
    )

-- A vector is sure where its elements are.
vector_sure : (L : LaidSchema) (b : Bytes) (most : Bounds) (kind : StoredKind) (p n fuel tables spent deep small : ℕ)
    → Keeps L b (part_place (vector_part kind)) p → n ≡ num b p 4 → Enough b p fuel → tables ≤ most.depth
    → ((fuel spent : ℕ) → spent ≤ most.cells → EnoughFor b fuel (named L b (part_place (vector_part kind)) p)
    → AmongSure L b most fuel (named L b (part_place (vector_part kind)) p) (tables + 0) spent deep small)
    → Sure L b most fuel (record { sort = part_place (vector_part kind); at = p }) tables spent deep ((1 + n) + small)
unfolding Sure AmongSure IsWithin Enough EnoughFor
vector_sure L b most kind p n zero tables spent deep small keeps is enough h elements = absurd (omega arith)
vector_sure L b most kind p n (suc fuel) tables spent deep small keeps is enough h elements =
    let place = place_fault fuel L b most (part_place (vector_part kind)) p tables spent keeps in
    let limits = cell_limits most p (spent + (1 + num b p 4)) in
    let below = λ (k : ℕ) (y : Place) (names : slice_get (named L b (part_place (vector_part kind)) p) k
    ≡ Some (Some y)). enough_below L b (part_place (vector_part kind)) p fuel k y enough keeps names in (
      λ e.
          let own = limits.0 (place.0 e).0 in
          let others = (elements fuel (spent + (1 + num b p 4)) own below).0 (place.0 e).1 in
          (omega arith, omega arith),
      λ bounds.
          let one : spent + (1 + num b p 4) ≤ most.cells = omega arith in
          place.1 (limits.1 one, (elements fuel (spent + (1 + num b p 4)) one below).1 (omega arith, omega arith)),
    )

-- A member is sure where its table is.
member_sure : (L : LaidSchema) (b : Bytes) (most : Bounds) (c t p fuel tables spent deep small : ℕ) → Enough b p fuel
    → Sure L b most fuel (record { sort = part_place (table_part t); at = p }) tables spent deep small
    → Sure L b most fuel (record { sort = part_place (member_part c t); at = p }) tables spent deep small
unfolding Sure first_fault limited_fault fault_by Enough
member_sure L b most c t p zero tables spent deep small enough known = absurd (omega arith)
member_sure L b most c t p (suc fuel) tables spent deep small enough known = known

-- the references of a vector, if it has them
named_by : Option Target → ℕ → ℕ → List (Option Place)
named_by None p n = []
named_by (Some X) p n = named_elements X p n

-- What a vector names are its references.
vector_names : (L : LaidSchema) (b : Bytes) (kind : StoredKind) (p n : ℕ) → n ≡ num b p 4
    → named L b (part_place (vector_part kind)) p ≡ named_by (target_of kind) (p + 4) n
unfolding named_by
vector_names L b text_kind p n e = rw e
vector_names L b (table_kind t) p n e = rw e
vector_names L b _ p n e = refl

-- An element is sure, in front of others.
element_sure : (L : LaidSchema) (b : Bytes) (most : Bounds) (fuel : ℕ) (kind : StoredKind) (o : Option Target)
    (p n tables spent : ℕ) (d : Datum) (deep small : ℕ) → target_of kind ≡ o
    → SureWhereItLies L b most d → Element L b kind p o d (λ s q. Lies L b s q d)
    → EnoughFor b fuel (named_by o p (suc n)) → tables ≤ most.depth → spent ≤ most.cells
    → (EnoughFor b fuel (named_by o (p + size_of L kind) n) → (c : ℕ) → c ≤ most.cells
    → AmongSure L b most fuel (named_by o (p + size_of L kind) n) tables c deep small)
    → AmongSure L b most fuel (named_by o p (suc n)) tables spent (max (depth d) deep) (cells d + small)
unfolding named_by named_elements AmongSure IsWithin EnoughFor
element_sure L b most fuel kind None p n tables spent d deep small is known lies enough h i rest =
    let r = rest (λ k y e. enough k y e) spent i in
    let flat = inline_depth L b kind p d lies in
    let free = inline_cells L b kind p d lies in
    (λ e. let s = r.0 e in (omega arith, omega arith), λ bounds. r.1 (omega arith, omega arith))
element_sure L b most fuel kind (Some X) p n tables spent d deep small is known lies enough h i rest =
    let four : size_of L kind ≡ 4 = element_size L kind X is in
    let cost = behind_cells L b (ref_place X) p d (λ s q at. part_cells L b s q d at) lies in
    more_sure L b most fuel (record { sort = ref_place X; at = p }) (named_elements X (p + 4) n) tables spent (depth d)
    (cells d) deep small (sym cost)
    (behind_sure L b most fuel (ref_place X) p tables spent d known lies
    (enough 0 (record { sort = ref_place X; at = p }) refl) h i)
    (λ j. rw four at (rest (rw four (λ k y e. enough (suc k) y e))
    (spent + all L b (record { sort = ref_place X; at = p })) (omega arith)))

-- What is sure of places is so of the same ones.
along : (L : LaidSchema) (b : Bytes) (most : Bounds) (fuel : ℕ) (xs ys : List (Option Place))
    (tables spent deep small : ℕ) → xs ≡ ys → (EnoughFor b fuel xs → AmongSure L b most fuel xs tables spent deep small)
    → EnoughFor b fuel ys → AmongSure L b most fuel ys tables spent deep small
along L b most fuel xs ys tables spent deep small e known =
    rw (← e) known

-- No elements are sure.
none_sure : (L : LaidSchema) (b : Bytes) (most : Bounds) (fuel : ℕ) (o : Option Target) (p tables spent : ℕ)
    → tables ≤ most.depth → spent ≤ most.cells → AmongSure L b most fuel (named_by o p 0) tables spent 0 0
unfolding named_by named_elements
none_sure L b most fuel None p tables spent h i = slots_sure_nil L b most fuel tables spent h i
none_sure L b most fuel (Some X) p tables spent h i = slots_sure_nil L b most fuel tables spent h i

mutual
  -- What lies at a place that is no reference: no fault stands exactly where it is within the limits.
  part_sure : (L : LaidSchema) (b : Bytes) (most : Bounds) (s : Sort) (p : ℕ) (d : Datum) (fuel tables spent : ℕ)
      → Lies L b s p d → Enough b p fuel → tables ≤ most.depth → spent ≤ most.cells
      → Sure L b most fuel (record { sort = s; at = p }) tables spent (depth d) (cells d)
  part_sure L b most (inline_place kind) p d fuel tables spent lies enough h i =
      inline_sure L b most kind p d fuel tables spent lies enough h i
  part_sure L b most (part_place text_part) p (a_text bytes) fuel tables spent lies enough h i =
      text_sure L b most p (length bytes) fuel tables spent lies.0 (ap length lies.1 ∙ text_length L b p lies.0) enough
      h i
  part_sure L b most (part_place (vector_part kind)) p (a_vector ds) fuel tables spent lies enough h i =
      vector_sure L b most kind p (count ds) fuel tables spent (parts_depth ds) (parts_cells ds) lies.0 lies.1 enough h
      (λ m c j. along L b most m _ _ (tables + 0) c (parts_depth ds) (parts_cells ds)
      (sym (vector_names L b kind p (count ds) lies.1))
      (λ more. items_sure L b most kind (p + 4) ds m (tables + 0) c lies.2 more (omega arith) j))
  part_sure L b most (part_place (table_part t)) p (a_table type ss) fuel tables spent lies enough h i =
      table_sure L b most t p fuel tables spent (entries_depth ss) (entries_cells ss) lies.0 enough
      (λ m u c j k more. slots_sure L b most (slots_of L t) (named_slots L b p 0 (slots_of L t)) ss m u c lies.2
      more j k)
  part_sure L b most (part_place (member_part c t)) p (a_member c2 d) fuel tables spent lies enough h i =
      member_sure L b most c t p fuel tables spent (depth d) (cells d) enough
      (part_sure L b most (part_place (table_part t)) p d fuel tables spent lies.1 enough h i)
  part_sure L b most _ p _ fuel tables spent lies enough h i = absurd lies

  -- The elements of a vector: no fault stands exactly where they are within the limits.
  items_sure : (L : LaidSchema) (b : Bytes) (most : Bounds) (kind : StoredKind) (p : ℕ) (ds : Parts)
      (fuel tables spent : ℕ) → LiesItems L b kind p ds → EnoughFor b fuel (named_by (target_of kind) p (count ds))
      → tables ≤ most.depth → spent ≤ most.cells
      → AmongSure L b most fuel (named_by (target_of kind) p (count ds)) tables spent (parts_depth ds) (parts_cells ds)
  items_sure L b most kind p no_parts fuel tables spent lies enough h i =
      none_sure L b most fuel (target_of kind) p tables spent h i
  items_sure L b most kind p (more_parts d ds) fuel tables spent lies enough h i =
      element_sure L b most fuel kind (target_of kind) p (count ds) tables spent d (parts_depth ds) (parts_cells ds)
      refl (λ s q m u c at more j k. part_sure L b most s q d m u c at more j k) lies.0 enough h i
      (λ more c j. items_sure L b most kind (p + size_of L kind) ds fuel tables c lies.1 more h j)

  -- The entries of a table: no fault stands exactly where they are within the limits.
  slots_sure : (L : LaidSchema) (b : Bytes) (most : Bounds) (fs : List Slot) (xs : List (Option Place))
      (ss : SlotEntries) (fuel tables spent : ℕ) → LiesSlots L b fs xs ss → EnoughFor b fuel xs → tables ≤ most.depth
      → spent ≤ most.cells → AmongSure L b most fuel xs tables spent (entries_depth ss) (entries_cells ss)
  slots_sure L b most [] [] no_entries fuel tables spent lies enough h i = slots_sure_nil L b most fuel tables spent h i
  slots_sure L b most (f ∷ fs) (x ∷ xs) (absent_entry ss) fuel tables spent lies enough h i =
      absent_sure L b most fuel f x xs tables spent (entries_depth ss) (entries_cells ss) lies.0 enough h i
      (λ c j. slots_sure L b most fs xs ss fuel tables c lies.1 (later_enough b fuel x xs enough) h j)
  slots_sure L b most (f ∷ fs) (x ∷ xs) (present_entry d ss) fuel tables spent lies enough h i =
      present_sure L b most fuel f x xs tables spent d (entries_depth ss) (entries_cells ss)
      (λ s q m u c at more j k. part_sure L b most s q d m u c at more j k) lies.0 enough h i
      (λ c j. slots_sure L b most fs xs ss fuel tables c lies.1 (later_enough b fuel x xs enough) h j)
  slots_sure L b most _ _ _ fuel tables spent lies enough h i = absurd lies

-- Where a value lies, no fault stands exactly where its tables and cells are within the limits, beside those above and
-- before it.
pub at_sure : (L : LaidSchema) (b : Bytes) (most : Bounds) (s : Sort) (p fuel tables spent : ℕ) (d : Datum)
    → LiesAt L b s p d → Enough b p fuel → tables ≤ most.depth → spent ≤ most.cells
    → (first_fault fuel L b most (record { sort = s; at = p }) tables spent ≡ None)
    ↔ ((tables + depth d ≤ most.depth) × (spent + cells d ≤ most.cells))
unfolding Sure IsWithin
at_sure L b most s p fuel tables spent d lies enough h i =
    behind_sure L b most fuel s p tables spent d (λ s q m u c at more j k. part_sure L b most s q d m u c at more j k)
    lies enough h i

-- The same without levels.
pub from_sure : (L : LaidSchema) (b : Bytes) (most : Bounds) (s : Sort) (p tables spent : ℕ) (d : Datum)
    → LiesAt L b s p d → tables ≤ most.depth → spent ≤ most.cells
    → (fault_from L b most (record { sort = s; at = p }) tables spent ≡ None)
    ↔ ((tables + depth d ≤ most.depth) × (spent + cells d ≤ most.cells))
unfolding fault_from
from_sure L b most s p tables spent d lies h i =
    at_sure L b most s p (levels b p) tables spent d lies (levels_enough b p) h i

-- The same from the front, where nothing is above and nothing spent.
pub root_sure : (L : LaidSchema) (b : Bytes) (most : Bounds) (s : Sort) (p : ℕ) (d : Datum) → LiesAt L b s p d
    → (fault_from L b most (record { sort = s; at = p }) 0 0 ≡ None) ↔ ((depth d ≤ most.depth) × (cells d ≤ most.cells))
root_sure L b most s p d lies =
    let sure = from_sure L b most s p 0 0 d lies (omega arith) (omega arith) in
    (λ e. let h = sure.0 e in (omega arith, omega arith), λ h. sure.1 (omega arith, omega arith))
