-- What lies somewhere is what is computed there, so it is the only value.
use Rattle.std.proofs.Common.{◌≡◌, ℕ, zero, suc, ◌+◌, ◌≤◌, max, List, [], ◌∷◌, Option, None, Some, refl, sym, ap, ◌∙◌}
use Rattle.std.proofs.Common.{arith}
use Rattle.fb_value.specs.declared.faults.ReadFault.{ReadFault}
use Rattle.fb_value.specs.Datum.{Datum, a_number, a_text, a_vector, a_struct, a_table, a_member, an_unknown, Parts}
use Rattle.fb_value.specs.Datum.{no_parts, more_parts, SlotEntries, no_entries, absent_entry, present_entry, count}
use Rattle.fb_value.specs.Num.{Bytes}
use Rattle.fb_layout.specs.Laid.{LaidSchema, Slot, StoredKind, scalar_kind, struct_kind, slots_of, parts_of, struct_at}
use Rattle.fb_layout.specs.Laid.{size_of}
use Rattle.fb_value.specs.Places.{Target, table_part, member_part, text_part, vector_part, Sort, ref_place, part_place}
use Rattle.fb_value.specs.Places.{inline_place, code_place, unknown_place, Place, named_slots, target_of}
use Rattle.fb_value.specs.Lies.{LiesInline, LiesParts, EntryAt, IsCode, AbsentEntry, PresentEntry, Element, Lies}
use Rattle.fb_value.specs.Lies.{LiesItems, LiesSlots, LiesAt}
use Rattle.fb_value.specs.Reads.{unless, parts_at, inline_at, through, element_at, items_at, entry_at, slot_at}
use Rattle.fb_value.specs.Reads.{slots_at, datum_at}
use Rattle.fb_value.proofs.laws.ValueHasLevels.{height, parts_height, entries_height}
use Rattle.fb_value.specs.Holds.{root_at}
use Rattle.fb_value.specs.Laws.{OneValue}

-- Where no rule fails, what is read is there.
pub unless_none : {A : Type 0} (f : Option ReadFault) (r : Option A) → f ≡ None → unless f r ≡ r
unless_none None r e = refl
unless_none (Some f) r e = cc

-- Each value has a level.
no_height : (d : Datum) → height d ≤ 0 → ⊥
no_height (a_number n) h = omega arith
no_height (a_text bytes) h = omega arith
no_height (a_vector ds) h = omega arith
no_height (a_struct ds) h = omega arith
no_height (a_table type ss) h = omega arith
no_height (a_member c d) h = omega arith
no_height (an_unknown c) h = omega arith

mutual
  unfolding inline_at parts_at

  -- The number or struct that stands in its place is what is computed there.
  pub inline_complete : (L : LaidSchema) (b : Bytes) (kind : StoredKind) (p : ℕ) (d : Datum) (fuel : ℕ)
      → LiesInline L b kind p d → height d ≤ fuel → inline_at fuel L b kind p ≡ Some d
  inline_complete L b (scalar_kind base) p (a_number n) zero lies h = absurd (omega arith)
  inline_complete L b (scalar_kind base) p (a_number n) (suc fuel) lies h = ap (λ x. Some (a_number x)) (sym lies)
  inline_complete L b (struct_kind s) p (a_struct ds) zero lies h = absurd (omega arith)
  inline_complete L b (struct_kind s) p (a_struct ds) (suc fuel) lies h =
      rw (parts_complete L b (parts_of L s) (struct_at L s).offsets p ds fuel lies (omega arith))
  inline_complete L b _ p _ fuel lies h = absurd lies

  -- The parts of a struct that lie there are those that are computed.
  parts_complete : (L : LaidSchema) (b : Bytes) (ks : List StoredKind) (os : List ℕ) (p : ℕ) (ds : Parts) (fuel : ℕ)
      → LiesParts L b ks os p ds → parts_height ds ≤ fuel → parts_at (λ k q. inline_at fuel L b k q) ks os p ≡ Some ds
  parts_complete L b [] os p no_parts fuel lies h = refl
  parts_complete L b (k ∷ ks) (o ∷ os) p (more_parts d ds) fuel lies h =
      rw (
        inline_complete L b k (p + o) d fuel lies.0 (omega arith),
        parts_complete L b ks os p ds fuel lies.1 (omega arith),
      )
  parts_complete L b _ _ p _ fuel lies h = absurd lies

-- a value is computed wherever it lies
abbrev pub ComputedWhereItLies : LaidSchema → Bytes → ℕ → Datum → Type 0
ComputedWhereItLies L b fuel d = (s : Sort) (q : ℕ) → Lies L b s q d → datum_at fuel L b s q ≡ Some d

-- An element that lies there is what is computed, once that is known of what is behind it.
element_complete : (L : LaidSchema) (b : Bytes) (kind : StoredKind) (p : ℕ) (X : Option Target) (d : Datum) (fuel : ℕ)
    → ComputedWhereItLies L b fuel d → Element L b kind p X d (λ s q. Lies L b s q d) → height d ≤ fuel
    → element_at L b kind p X (λ s q. datum_at fuel L b s q) (λ k q. inline_at fuel L b k q) ≡ Some d
element_complete L b kind p None d fuel known lies h = inline_complete L b kind p d fuel lies h
element_complete L b kind p (Some X) d fuel known lies h = unless_none _ _ lies.0 ∙ known (part_place X) _ lies.1

-- An entry that lies there is what is computed, once that is known of what is behind it.
entry_complete : (L : LaidSchema) (b : Bytes) (s : Sort) (p : ℕ) (d : Datum) (ss : SlotEntries) (fuel : ℕ)
    → ComputedWhereItLies L b fuel d → EntryAt L b s p d (λ s q. Lies L b s q d)
    → entry_at L b (λ s q. datum_at fuel L b s q) s p ss ≡ Some (present_entry d ss)
entry_complete L b (ref_place X) p d ss fuel known lies = rw (lies.0, known (part_place X) _ lies.1)
entry_complete L b (part_place X) p d ss fuel known lies = rw (known (part_place X) _ lies)
entry_complete L b (inline_place kind) p d ss fuel known lies = rw (known (inline_place kind) _ lies)
entry_complete L b (code_place u k required here) p d ss fuel known lies = absurd lies
entry_complete L b (unknown_place c) p d ss fuel known lies = rw lies refl

-- A code that keeps its rules is computed to be no entry.
code_complete : (L : LaidSchema) (b : Bytes) (s : Sort) (p : ℕ) (ss : SlotEntries) (fuel : ℕ) → IsCode L b s p
    → entry_at L b (λ s q. datum_at fuel L b s q) s p ss ≡ Some (absent_entry ss)
code_complete L b (code_place u k required here) p ss fuel lies = rw lies
code_complete L b _ p ss fuel lies = absurd lies

-- A slot without an entry is computed to have none.
absent_complete : (L : LaidSchema) (b : Bytes) (f : Slot) (x : Option Place) (ss : SlotEntries) (fuel : ℕ)
    → AbsentEntry L b f x → slot_at L b (λ s q. datum_at fuel L b s q) f x ss ≡ Some (absent_entry ss)
absent_complete L b f None ss fuel lies = rw lies
absent_complete L b f (Some x) ss fuel lies = code_complete L b x.sort x.at ss fuel lies

-- A slot with an entry is computed to have it.
present_complete : (L : LaidSchema) (b : Bytes) (f : Slot) (x : Option Place) (d : Datum) (ss : SlotEntries) (fuel : ℕ)
    → ComputedWhereItLies L b fuel d → PresentEntry L b f x d (λ s q. Lies L b s q d)
    → slot_at L b (λ s q. datum_at fuel L b s q) f x ss ≡ Some (present_entry d ss)
present_complete L b f None d ss fuel known lies = rw (lies.1, lies.2)
present_complete L b f (Some x) d ss fuel known lies = entry_complete L b x.sort x.at d ss fuel known lies

mutual
  unfolding datum_at items_at slots_at

  -- What lies at a place that is no reference is what is computed there, within levels enough.
  pub complete : (L : LaidSchema) (b : Bytes) (s : Sort) (p : ℕ) (d : Datum) (fuel : ℕ) → Lies L b s p d
      → height d ≤ fuel → datum_at fuel L b s p ≡ Some d
  complete L b (inline_place kind) p d zero lies h = absurd (no_height d h)
  complete L b (inline_place kind) p d (suc fuel) lies h = rw (lies.0, inline_complete L b kind p d (suc fuel) lies.1 h)
  complete L b (part_place text_part) p (a_text bytes) zero lies h = absurd (omega arith)
  complete L b (part_place text_part) p (a_text bytes) (suc fuel) lies h = rw (lies.0, ← lies.1)
  complete L b (part_place (vector_part kind)) p (a_vector ds) zero lies h = absurd (omega arith)
  complete L b (part_place (vector_part kind)) p (a_vector ds) (suc fuel) lies h =
      rw (lies.0, ← lies.1, items_complete L b kind (p + 4) ds fuel lies.2 (omega arith))
  complete L b (part_place (table_part t)) p (a_table type ss) zero lies h = absurd (omega arith)
  complete L b (part_place (table_part t)) p (a_table type ss) (suc fuel) lies h =
      rw (
        lies.0,
        slots_complete L b (slots_of L t) (named_slots L b p 0 (slots_of L t)) ss fuel lies.2 (omega arith),
        lies.1,
      )
  complete L b (part_place (member_part c t)) p (a_member c2 d) zero lies h = absurd (omega arith)
  complete L b (part_place (member_part c t)) p (a_member c2 d) (suc fuel) lies h =
      rw (complete L b (part_place (table_part t)) p d fuel lies.1 (omega arith), lies.0)
  complete L b _ p _ fuel lies h = absurd lies

  -- The elements that lie there are those that are computed.
  pub items_complete : (L : LaidSchema) (b : Bytes) (kind : StoredKind) (p : ℕ) (ds : Parts) (fuel : ℕ)
      → LiesItems L b kind p ds → parts_height ds ≤ fuel
      → items_at L b (λ s q. datum_at fuel L b s q) (λ k q. inline_at fuel L b k q) kind p (count ds) ≡ Some ds
  items_complete L b kind p no_parts fuel lies h = refl
  items_complete L b kind p (more_parts d ds) fuel lies h =
      rw (
        element_complete L b kind p (target_of kind) d fuel (λ s q at. complete L b s q d fuel at (omega arith))
            lies.0 (omega arith),
        items_complete L b kind (p + size_of L kind) ds fuel lies.1 (omega arith),
      )

  -- The entries that lie there are those that are computed.
  pub slots_complete : (L : LaidSchema) (b : Bytes) (fs : List Slot) (xs : List (Option Place)) (ss : SlotEntries)
      (fuel : ℕ) → LiesSlots L b fs xs ss → entries_height ss ≤ fuel
      → slots_at L b (λ s q. datum_at fuel L b s q) fs xs ≡ Some ss
  slots_complete L b [] [] no_entries fuel lies h = refl
  slots_complete L b (f ∷ fs) (x ∷ xs) (absent_entry ss) fuel lies h =
      rw (slots_complete L b fs xs ss fuel lies.1 (omega arith), absent_complete L b f x ss fuel lies.0)
  slots_complete L b (f ∷ fs) (x ∷ xs) (present_entry d ss) fuel lies h =
      rw (
        slots_complete L b fs xs ss fuel lies.1 (omega arith),
        present_complete L b f x d ss fuel (λ s q at. complete L b s q d fuel at (omega arith)) lies.0,
      )
  slots_complete L b _ _ _ fuel lies h = absurd lies

-- What lies at a place, also behind a reference, is what is computed there.
pub at_complete : (L : LaidSchema) (b : Bytes) (s : Sort) (p : ℕ) (d : Datum) (fuel : ℕ) → LiesAt L b s p d
    → height d ≤ fuel → through L b s p (λ s q. datum_at fuel L b s q) ≡ Some d
at_complete L b (ref_place X) p d fuel lies h = rw (lies.0, complete L b (part_place X) _ d fuel lies.1 h)
at_complete L b (part_place X) p d fuel lies h = complete L b (part_place X) p d fuel lies h
at_complete L b (inline_place kind) p d fuel lies h = complete L b (inline_place kind) p d fuel lies h
at_complete L b _ p d fuel lies h = absurd lies

-- What lies at a place is one value at most.
pub one_value : (L : LaidSchema) (b : Bytes) (s : Sort) (p : ℕ) (v w : Datum) → LiesAt L b s p v → LiesAt L b s p w
    → v ≡ w
one_value L b s p v w first second =
    let fuel = max (height v) (height w) in
    let e : Some v ≡ Some w = sym (at_complete L b s p v fuel first (omega arith)) ∙ at_complete L b s p w fuel second
    (omega arith) in
    cc

-- Bytes hold one value at most.
pub one_value_shown : OneValue
one_value_shown p fault L most b v w first second = one_value L b (root_at L p).sort p v w first.lies second.lies
