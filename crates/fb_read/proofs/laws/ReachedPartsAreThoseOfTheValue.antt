-- The parts of a value are those that are reached from where it lies.
use Rattle.std.proofs.Common.{◌≡◌, ℕ, suc, ◌+◌, List, [], ◌∷◌, Option, None, Some, refl, sym, ◌∙◌, arith}
use Rattle.fb_value.specs.Datum.{Datum, a_number, a_text, a_vector, a_struct, a_table, a_member, Parts, no_parts}
use Rattle.fb_value.specs.Datum.{more_parts, SlotEntries, no_entries, absent_entry, present_entry, count}
use Rattle.fb_value.specs.Counts.{entered, parts_entered, entries_entered}
use Rattle.fb_value.specs.Num.{Bytes, num}
use Rattle.fb_layout.specs.Laid.{LaidSchema, Slot, StoredKind, scalar_kind, struct_kind, table_kind, text_kind}
use Rattle.fb_layout.specs.Laid.{parts_of, slots_of, struct_at, size_of}
use Rattle.fb_value.specs.Places.{Target, table_part, member_part, text_part, vector_part, Sort, ref_place, part_place}
use Rattle.fb_value.specs.Places.{inline_place, code_place, unknown_place, Place, named, named_slots, named_elements}
use Rattle.fb_value.specs.Places.{target_of}
use Rattle.fb_value.specs.Rules.{Keeps}
use Rattle.fb_value.specs.Lies.{EntryAt, Behind, IsCode, AbsentEntry, PresentEntry, Element}
use Rattle.fb_value.specs.Lies.{LiesInline, LiesParts, Lies, LiesItems, LiesSlots, LiesAt}
use Rattle.fb_value.specs.Faults.{sum_over}
use Rattle.fb_value.proofs.reached.CellsAreThoseReached.{unknown_keeps}
use Rattle.fb_read.specs.Entered.{own_parts, parts_from, PartsOfValue}
use Rattle.fb_read.proofs.visit_tables.PartsAddUp.{parts_kept, member_part_parts}
use Rattle.fb_value.proofs.reached.CellsAreThoseReached.{element_size}

mutual
  -- Numbers and structs have none.
  inline_entered : (L : LaidSchema) (b : Bytes) (kind : StoredKind) (p : ℕ) (d : Datum) → LiesInline L b kind p d
      → entered d ≡ 0
  inline_entered L b (scalar_kind base) p (a_number n) lies = refl
  inline_entered L b (struct_kind s) p (a_struct ds) lies =
      fields_entered L b (parts_of L s) (struct_at L s).offsets p ds lies
  inline_entered L b _ p _ lies = absurd lies

  fields_entered : (L : LaidSchema) (b : Bytes) (ks : List StoredKind) (os : List ℕ) (p : ℕ) (ds : Parts)
      → LiesParts L b ks os p ds → parts_entered ds ≡ 0
  fields_entered L b [] os p no_parts lies = refl
  fields_entered L b (k ∷ ks) (o ∷ os) p (more_parts d ds) lies =
      omega (arith, inline_entered L b k (p + o) d lies.0, fields_entered L b ks os p ds lies.1)
  fields_entered L b _ _ p _ lies = absurd lies

kept_at : (L : LaidSchema) (b : Bytes) (s : Sort) (p : ℕ) → Keeps L b s p
    → parts_from L b (record { sort = s; at = p }) ≡ own_parts s + sum_over (parts_from L b) (named L b s p)
kept_at L b s p keeps = parts_kept L b (record { sort = s; at = p }) keeps

-- the parts of a value are those of the places that are reached from wherever it lies
abbrev PartsWhereItLies : LaidSchema → Bytes → Datum → Type 0
PartsWhereItLies L b d = (s : Sort) (q : ℕ) → Lies L b s q d → entered d ≡ parts_from L b (record { sort = s; at = q })

-- The parts of what lies at a place, once they are known of what is behind it.
behind_parts : (L : LaidSchema) (b : Bytes) (s : Sort) (p : ℕ) (d : Datum)
    → PartsWhereItLies L b d → Behind L b s p (λ s q. Lies L b s q d)
    → entered d ≡ parts_from L b (record { sort = s; at = p })
behind_parts L b (ref_place X) p d known lies =
    omega (arith, known (part_place X) (p + num b p 4) lies.1, kept_at L b (ref_place X) p lies.0)
behind_parts L b (part_place X) p d known lies = known (part_place X) p lies
behind_parts L b (inline_place kind) p d known lies = known (inline_place kind) p lies
behind_parts L b _ p d known lies = absurd lies

-- The parts of an entry are those of the place that its slot names.
entry_parts : (L : LaidSchema) (b : Bytes) (s : Sort) (p : ℕ) (d : Datum)
    → PartsWhereItLies L b d → EntryAt L b s p d (λ s q. Lies L b s q d)
    → entered d ≡ parts_from L b (record { sort = s; at = p })
entry_parts L b (ref_place X) p d known lies = behind_parts L b (ref_place X) p d known lies
entry_parts L b (part_place X) p d known lies = behind_parts L b (part_place X) p d known lies
entry_parts L b (inline_place kind) p d known lies = behind_parts L b (inline_place kind) p d known lies
entry_parts L b (code_place u k required here) p d known lies = absurd lies
entry_parts L b (unknown_place c) p d known lies =
    rw lies (sym (kept_at L b (unknown_place c) p (unknown_keeps L b c p)))

-- A code has no parts.
code_parts : (L : LaidSchema) (b : Bytes) (s : Sort) (p : ℕ) → IsCode L b s p
    → parts_from L b (record { sort = s; at = p }) ≡ 0
code_parts L b (code_place u k required here) p is = omega (arith, kept_at L b (code_place u k required here) p is)
code_parts L b _ p is = absurd is

-- A slot without an entry adds no parts.
absent_parts : (L : LaidSchema) (b : Bytes) (f : Slot) (x : Option Place) (xs : List (Option Place))
    → AbsentEntry L b f x → sum_over (parts_from L b) (x ∷ xs) ≡ sum_over (parts_from L b) xs
absent_parts L b f None xs lies = refl
absent_parts L b f (Some x) xs lies = omega (arith, code_parts L b x.sort x.at lies)

-- A slot with an entry adds the parts of the entry.
present_parts : (L : LaidSchema) (b : Bytes) (f : Slot) (x : Option Place) (xs : List (Option Place)) (d : Datum)
    → PartsWhereItLies L b d → PresentEntry L b f x d (λ s q. Lies L b s q d)
    → sum_over (parts_from L b) (x ∷ xs) ≡ entered d + sum_over (parts_from L b) xs
present_parts L b f None xs d known lies = rw lies.2 (omega arith)
present_parts L b f (Some x) xs d known lies = omega (arith, entry_parts L b x.sort x.at d known lies)

-- the sum over a vector's references, if it has them
references : LaidSchema → Bytes → Option Target → ℕ → ℕ → ℕ
references L b None p n = 0
references L b (Some X) p n = sum_over (parts_from L b) (named_elements X p n)

-- The first of some elements adds its parts.
element_parts : (L : LaidSchema) (b : Bytes) (kind : StoredKind) (o : Option Target) (p n : ℕ) (d : Datum)
    → target_of kind ≡ o → PartsWhereItLies L b d
    → Element L b kind p o d (λ s q. Lies L b s q d)
    → references L b o p (suc n) ≡ entered d + references L b o (p + size_of L kind) n
unfolding references named_elements
element_parts L b kind None p n d is known lies = omega (arith, inline_entered L b kind p d lies)
element_parts L b kind (Some X) p n d is known lies =
    rw (element_size L kind X is) (omega (arith, behind_parts L b (ref_place X) p d known lies))

-- No elements add no parts.
no_references : (L : LaidSchema) (b : Bytes) (o : Option Target) (p : ℕ) → 0 ≡ references L b o p 0
unfolding references named_elements
no_references L b None p = refl
no_references L b (Some X) p = refl

-- What a vector names are its references.
vector_references : (L : LaidSchema) (b : Bytes) (kind : StoredKind) (p n : ℕ) → n ≡ num b p 4
    → sum_over (parts_from L b) (named L b (part_place (vector_part kind)) p)
    ≡ references L b (target_of kind) (p + 4) n
unfolding references
vector_references L b text_kind p n e = rw e
vector_references L b (table_kind t) p n e = rw e
vector_references L b _ p n e = refl

mutual
  unfolding references

  -- The parts of what lies at a place that is no reference are those of all that is reached from it.
  part_parts : (L : LaidSchema) (b : Bytes) (s : Sort) (p : ℕ) (d : Datum) → Lies L b s p d
      → entered d ≡ parts_from L b (record { sort = s; at = p })
  part_parts L b (inline_place kind) p d lies =
      omega (arith, inline_entered L b kind p d lies.1, kept_at L b (inline_place kind) p lies.0)
  part_parts L b (part_place text_part) p (a_text bytes) lies =
      omega (arith, kept_at L b (part_place text_part) p lies.0)
  part_parts L b (part_place (vector_part kind)) p (a_vector ds) lies =
      omega (
        arith,
        items_are L b kind (p + 4) ds lies.2,
        vector_references L b kind p (count ds) lies.1,
        kept_at L b (part_place (vector_part kind)) p lies.0,
      )
  part_parts L b (part_place (table_part t)) p (a_table type ss) lies =
      omega (
        arith,
        slots_are L b (slots_of L t) (named_slots L b p 0 (slots_of L t)) ss lies.2,
        kept_at L b (part_place (table_part t)) p lies.0,
      )
  part_parts L b (part_place (member_part c t)) p (a_member c2 d) lies =
      part_parts L b (part_place (table_part t)) p d lies.1
      ∙ sym (member_part_parts L b c t p)
  part_parts L b _ p _ lies = absurd lies

  -- The parts of elements are those of their references.
  items_are : (L : LaidSchema) (b : Bytes) (kind : StoredKind) (p : ℕ) (ds : Parts) → LiesItems L b kind p ds
      → parts_entered ds ≡ references L b (target_of kind) p (count ds)
  items_are L b kind p no_parts lies = no_references L b (target_of kind) p
  items_are L b kind p (more_parts d ds) lies =
      omega (
        arith,
        element_parts L b kind (target_of kind) p (count ds) d refl (λ s q at. part_parts L b s q d at)
            lies.0,
        items_are L b kind (p + size_of L kind) ds lies.1,
      )

  -- The parts of entries are those of the places that the slots name.
  slots_are : (L : LaidSchema) (b : Bytes) (fs : List Slot) (xs : List (Option Place)) (ss : SlotEntries)
      → LiesSlots L b fs xs ss → entries_entered ss ≡ sum_over (parts_from L b) xs
  slots_are L b [] [] no_entries lies = refl
  slots_are L b (f ∷ fs) (x ∷ xs) (absent_entry ss) lies =
      omega (arith, absent_parts L b f x xs lies.0, slots_are L b fs xs ss lies.1)
  slots_are L b (f ∷ fs) (x ∷ xs) (present_entry d ss) lies =
      omega (
        arith,
        present_parts L b f x xs d (λ s q at. part_parts L b s q d at) lies.0,
        slots_are L b fs xs ss lies.1,
      )
  slots_are L b _ _ _ lies = absurd lies

-- The parts of the value at a place are those of all that is reached from it.
pub parts_are : (L : LaidSchema) (b : Bytes) (s : Sort) (p : ℕ) (d : Datum) → LiesAt L b s p d
    → entered d ≡ parts_from L b (record { sort = s; at = p })
parts_are L b s p d lies = behind_parts L b s p d (λ s q at. part_parts L b s q d at) lies

pub parts_of_value_shown : PartsOfValue
parts_of_value_shown L b x d lies = parts_are L b x.sort x.at d lies
