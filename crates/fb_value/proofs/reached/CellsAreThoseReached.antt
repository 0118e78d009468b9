-- The cells of a value are those of the places that are reached from where it lies.
use Rattle.std.proofs.Common.{◌≡◌, ℕ, suc, ◌+◌, List, [], ◌∷◌, Option, None, Some, refl, sym, ap, ◌∙◌, arith, length}
use Rattle.std.proofs.Common.{length-take, length-drop, ◌≤◌, nat_le}
use Rattle.fb_value.specs.Datum.{Datum, a_number, a_text, a_vector, a_struct, a_table, a_member, Parts, no_parts}
use Rattle.fb_value.specs.Datum.{more_parts, SlotEntries, no_entries, absent_entry, present_entry, count}
use Rattle.fb_value.specs.Counts.{cells, parts_cells, entries_cells}
use Rattle.fb_value.specs.declared.faults.ReadFault.{ReadFault}
use Rattle.fb_value.specs.Num.{Bytes, num, part_of}
use Rattle.fb_layout.specs.Laid.{LaidSchema, Slot, StoredKind, scalar_kind, struct_kind, table_kind, text_kind}
use Rattle.fb_layout.specs.Laid.{slots_of, parts_of, struct_at, size_of}
use Rattle.fb_value.specs.Places.{Target, table_part, member_part, text_part, vector_part, Sort, ref_place, part_place}
use Rattle.fb_value.specs.Places.{inline_place, code_place, unknown_place, Place, named, named_slots, named_elements}
use Rattle.fb_value.specs.Places.{target_of}
use Rattle.fb_value.specs.Rules.{first_failing, Keeps, fault_by}
use Rattle.fb_value.specs.Lies.{EntryAt, LiesInline, LiesParts, Behind, IsCode, AbsentEntry, PresentEntry, Element}
use Rattle.fb_value.specs.Lies.{Lies, LiesItems, LiesSlots, LiesAt}
use Rattle.fb_value.specs.Faults.{own_cells, sum_over, if_kept, all}
use Rattle.std.proofs.lemmas.Bool.{leb-true, and_parts}
use Rattle.fb_value.proofs.rules.RulesHoldOneByOne.{rule_held}
use Rattle.fb_value.proofs.laws.ReachedPlacesKeepTheirRules.{lies_keeps}
use Rattle.fb_value.proofs.rules.ComputedFaultIsTheLeast.{all_is}
use Rattle.fb_value.specs.Laws.{CellsOfPlace, CellsOfValue}

-- Where no rule fails, the cells count.
pub kept : (o : Option ReadFault) (n : ℕ) → o ≡ None → if_kept o n ≡ n
kept None n e = refl
kept (Some f) n e = cc

-- At a place that keeps its rules, the cells are its own and those of what it names.
pub all_kept : (L : LaidSchema) (b : Bytes) (s : Sort) (p : ℕ) → Keeps L b s p
    → all L b (record { sort = s; at = p }) ≡ own_cells b s p + sum_over (all L b) (named L b s p)
all_kept L b s p keeps = all_is L b (record { sort = s; at = p }) ∙ kept _ _ keeps

mutual
  -- What stands in its place has no cells.
  pub inline_cells : (L : LaidSchema) (b : Bytes) (kind : StoredKind) (p : ℕ) (d : Datum) → LiesInline L b kind p d
      → cells d ≡ 0
  inline_cells L b (scalar_kind base) p (a_number n) lies = refl
  inline_cells L b (struct_kind s) p (a_struct ds) lies =
      parts_free L b (parts_of L s) (struct_at L s).offsets p ds lies
  inline_cells L b _ p _ lies = absurd lies

  -- Nor have the parts of a struct.
  parts_free : (L : LaidSchema) (b : Bytes) (ks : List StoredKind) (os : List ℕ) (p : ℕ) (ds : Parts)
      → LiesParts L b ks os p ds → parts_cells ds ≡ 0
  parts_free L b [] os p no_parts lies = refl
  parts_free L b (k ∷ ks) (o ∷ os) p (more_parts d ds) lies =
      omega (arith, inline_cells L b k (p + o) d lies.0, parts_free L b ks os p ds lies.1)
  parts_free L b _ _ p _ lies = absurd lies

-- the cells of a value are those of the places that are reached from wherever it lies
abbrev pub CellsWhereItLies : LaidSchema → Bytes → Datum → Type 0
CellsWhereItLies L b d = (s : Sort) (q : ℕ) → Lies L b s q d → cells d ≡ all L b (record { sort = s; at = q })

-- The cells of what lies at a place, once they are known of what is behind it.
pub behind_cells : (L : LaidSchema) (b : Bytes) (s : Sort) (p : ℕ) (d : Datum)
    → CellsWhereItLies L b d → Behind L b s p (λ s q. Lies L b s q d) → cells d ≡ all L b (record { sort = s; at = p })
behind_cells L b (ref_place X) p d known lies =
    omega (arith, known (part_place X) (p + num b p 4) lies.1, all_kept L b (ref_place X) p lies.0)
behind_cells L b (part_place X) p d known lies = known (part_place X) p lies
behind_cells L b (inline_place kind) p d known lies = known (inline_place kind) p lies
behind_cells L b _ p d known lies = absurd lies

-- Nothing fails at the value of a code that no member has.
pub unknown_keeps : (L : LaidSchema) (b : Bytes) (c p : ℕ) → Keeps L b (unknown_place c) p
unfolding fault_by first_failing
unknown_keeps L b c p = refl

-- The cells of an entry are those of the place that its slot names.
pub entry_cells : (L : LaidSchema) (b : Bytes) (s : Sort) (p : ℕ) (d : Datum)
    → CellsWhereItLies L b d → EntryAt L b s p d (λ s q. Lies L b s q d)
    → cells d ≡ all L b (record { sort = s; at = p })
entry_cells L b (ref_place X) p d known lies = behind_cells L b (ref_place X) p d known lies
entry_cells L b (part_place X) p d known lies = behind_cells L b (part_place X) p d known lies
entry_cells L b (inline_place kind) p d known lies = behind_cells L b (inline_place kind) p d known lies
entry_cells L b (code_place u k required here) p d known lies = absurd lies
entry_cells L b (unknown_place c) p d known lies =
    rw lies (sym (all_kept L b (unknown_place c) p (unknown_keeps L b c p)))

-- A code has no cells.
pub code_cells : (L : LaidSchema) (b : Bytes) (s : Sort) (p : ℕ) → IsCode L b s p
    → all L b (record { sort = s; at = p }) ≡ 0
code_cells L b (code_place u k required here) p is = omega (arith, all_kept L b (code_place u k required here) p is)
code_cells L b _ p is = absurd is

-- A slot without an entry adds no cells.
pub absent_cells : (L : LaidSchema) (b : Bytes) (f : Slot) (x : Option Place) (xs : List (Option Place))
    → AbsentEntry L b f x → sum_over (all L b) (x ∷ xs) ≡ sum_over (all L b) xs
absent_cells L b f None xs lies = refl
absent_cells L b f (Some x) xs lies = omega (arith, code_cells L b x.sort x.at lies)

-- A slot with an entry adds the cells of the entry.
pub present_cells : (L : LaidSchema) (b : Bytes) (f : Slot) (x : Option Place) (xs : List (Option Place)) (d : Datum)
    → CellsWhereItLies L b d → PresentEntry L b f x d (λ s q. Lies L b s q d)
    → sum_over (all L b) (x ∷ xs) ≡ cells d + sum_over (all L b) xs
present_cells L b f None xs d known lies = rw lies.2 (omega arith)
present_cells L b f (Some x) xs d known lies = omega (arith, entry_cells L b x.sort x.at d known lies)

-- the sum over a vector's references, if it has them
references : LaidSchema → Bytes → Option Target → ℕ → ℕ → ℕ
references L b None p n = 0
references L b (Some X) p n = sum_over (all L b) (named_elements X p n)

-- An element by reference takes 4 bytes.
pub element_size : (L : LaidSchema) (kind : StoredKind) (X : Target) → target_of kind ≡ Some X → size_of L kind ≡ 4
element_size L text_kind X e = refl
element_size L (table_kind t) X e = refl
element_size L _ X e = cc

-- The first of some elements adds its cells.
element_cells : (L : LaidSchema) (b : Bytes) (kind : StoredKind) (o : Option Target) (p n : ℕ) (d : Datum)
    → target_of kind ≡ o → CellsWhereItLies L b d
    → Element L b kind p o d (λ s q. Lies L b s q d)
    → references L b o p (suc n) ≡ cells d + references L b o (p + size_of L kind) n
unfolding references named_elements
element_cells L b kind None p n d is known lies = omega (arith, inline_cells L b kind p d lies)
element_cells L b kind (Some X) p n d is known lies =
    rw (element_size L kind X is) (omega (arith, behind_cells L b (ref_place X) p d known lies))

-- No elements add no cells.
no_references : (L : LaidSchema) (b : Bytes) (o : Option Target) (p : ℕ) → 0 ≡ references L b o p 0
unfolding references named_elements
no_references L b None p = refl
no_references L b (Some X) p = refl

-- What a vector names are its references.
vector_references : (L : LaidSchema) (b : Bytes) (kind : StoredKind) (p n : ℕ) → n ≡ num b p 4
    → sum_over (all L b) (named L b (part_place (vector_part kind)) p) ≡ references L b (target_of kind) (p + 4) n
unfolding references
vector_references L b text_kind p n e = rw e
vector_references L b (table_kind t) p n e = rw e
vector_references L b _ p n e = refl

-- A text that keeps its rules is as long as its count says.
pub text_length : (L : LaidSchema) (b : Bytes) (p : ℕ) → Keeps L b (part_place text_part) p
    → length (part_of b (p + 4) (num b p 4)) ≡ num b p 4
unfolding fault_by
text_length L b p keeps =
    let within : (p + 4) + num b p 4 ≤ length b =
    leb-true _ _ (and_parts (nat_le (p + 4) (length b)) (nat_le ((p + 4) + num b p 4) (length b))
    (rule_held _ _ _ (rule_held _ _ _ keeps).1).0).1 in
    simp (length-take, length-drop) (omega arith)

-- A member has the cells of its table.
pub member_cells : (L : LaidSchema) (b : Bytes) (c t p : ℕ) → Keeps L b (part_place (table_part t)) p
    → all L b (record { sort = part_place (member_part c t); at = p })
    ≡ all L b (record { sort = part_place (table_part t); at = p })
unfolding fault_by
member_cells L b c t p keeps = all_kept L b (part_place (member_part c t)) p keeps
    ∙ sym (all_kept L b (part_place (table_part t)) p keeps)

mutual
  unfolding references

  -- The cells of what lies at a place that is no reference are those of all that is reached from it.
  pub part_cells : (L : LaidSchema) (b : Bytes) (s : Sort) (p : ℕ) (d : Datum) → Lies L b s p d
      → cells d ≡ all L b (record { sort = s; at = p })
  part_cells L b (inline_place kind) p d lies =
      omega (arith, inline_cells L b kind p d lies.1, all_kept L b (inline_place kind) p lies.0)
  part_cells L b (part_place text_part) p (a_text bytes) lies =
      omega (arith, ap length lies.1, text_length L b p lies.0, all_kept L b (part_place text_part) p lies.0)
  part_cells L b (part_place (vector_part kind)) p (a_vector ds) lies =
      omega (
        arith,
        items_are L b kind (p + 4) ds lies.2,
        vector_references L b kind p (count ds) lies.1,
        all_kept L b (part_place (vector_part kind)) p lies.0,
      )
  part_cells L b (part_place (table_part t)) p (a_table type ss) lies =
      omega (
        arith,
        slots_are L b (slots_of L t) (named_slots L b p 0 (slots_of L t)) ss lies.2,
        all_kept L b (part_place (table_part t)) p lies.0,
      )
  part_cells L b (part_place (member_part c t)) p (a_member c2 d) lies =
      part_cells L b (part_place (table_part t)) p d lies.1
      ∙ sym (member_cells L b c t p (lies_keeps L b (part_place (table_part t)) p d lies.1))
  part_cells L b _ p _ lies = absurd lies

  -- The cells of elements are those of their references.
  items_are : (L : LaidSchema) (b : Bytes) (kind : StoredKind) (p : ℕ) (ds : Parts) → LiesItems L b kind p ds
      → parts_cells ds ≡ references L b (target_of kind) p (count ds)
  items_are L b kind p no_parts lies = no_references L b (target_of kind) p
  items_are L b kind p (more_parts d ds) lies =
      omega (
        arith,
        element_cells L b kind (target_of kind) p (count ds) d refl (λ s q at. part_cells L b s q d at)
            lies.0,
        items_are L b kind (p + size_of L kind) ds lies.1,
      )

  -- The cells of entries are those of the places that the slots name.
  pub slots_are : (L : LaidSchema) (b : Bytes) (fs : List Slot) (xs : List (Option Place)) (ss : SlotEntries)
      → LiesSlots L b fs xs ss → entries_cells ss ≡ sum_over (all L b) xs
  slots_are L b [] [] no_entries lies = refl
  slots_are L b (f ∷ fs) (x ∷ xs) (absent_entry ss) lies =
      omega (arith, absent_cells L b f x xs lies.0, slots_are L b fs xs ss lies.1)
  slots_are L b (f ∷ fs) (x ∷ xs) (present_entry d ss) lies =
      omega (
        arith,
        present_cells L b f x xs d (λ s q at. part_cells L b s q d at) lies.0,
        slots_are L b fs xs ss lies.1,
      )
  slots_are L b _ _ _ lies = absurd lies

-- The cells of the value at a place are those of all that is reached from it.
pub cells_are : (L : LaidSchema) (b : Bytes) (s : Sort) (p : ℕ) (d : Datum) → LiesAt L b s p d
    → cells d ≡ all L b (record { sort = s; at = p })
cells_are L b s p d lies = behind_cells L b s p d (λ s q at. part_cells L b s q d at) lies

-- The cells of a place are its own and those of what it names.
pub cells_of_place_shown : CellsOfPlace
cells_of_place_shown = all_is

-- The cells of a value are those of the places that are reached from where it lies.
pub cells_of_value_shown : CellsOfValue
cells_of_value_shown L b x d lies = cells_are L b x.sort x.at d lies
