-- The value at a place, computed, within a number of levels: a law ties it to where a value lies.
use Rattle.std.specs.Prelude.{ℕ, zero, suc, ◌+◌, ◌-◌, ◌*◌, List, [], ◌∷◌, length, Option, None, Some, ℤ}
use Rattle.fb_schema.specs.Alignments.{base_size}
use Rattle.fb_layout.specs.Laid.{LaidSchema, Slot, StoredKind, scalar_kind, struct_kind, slots_of, parts_of, struct_at}
use Rattle.fb_layout.specs.Laid.{size_of}
use Rattle.fb_value.specs.declared.faults.ReadFault.{ReadFault}
use Rattle.fb_value.specs.Datum.{Datum, a_number, a_text, a_vector, a_struct, a_table, a_member, an_unknown, Parts}
use Rattle.fb_value.specs.Datum.{no_parts, more_parts, SlotEntries, no_entries, absent_entry, present_entry}
use Rattle.fb_value.specs.Num.{Bytes, num, part_of, scalar_of}
use Rattle.fb_value.specs.Places.{Target, table_part, member_part, text_part, vector_part, Sort, ref_place, part_place}
use Rattle.fb_value.specs.Places.{inline_place, code_place, unknown_place, Place, named_slots, target_of}
use Rattle.fb_value.specs.Rules.{fault_at}

-- a value that may be missing, and what is made of it
infixl 10 ◌>>=◌
abbrev pub ◌>>=◌ : {A B : Type 0} → Option A → (A → Option B) → Option B
None >>= f = None
(Some x) >>= f = f x

-- only where no rule fails
abbrev pub unless : {A : Type 0} → Option ReadFault → Option A → Option A
unless None r = r
unless (Some f) r = None

-- a struct's fields, each by read
unfoldable pub parts_at : (StoredKind → ℕ → Option Datum) → List StoredKind → List ℕ → ℕ → Option Parts
parts_at read (k ∷ ks) (o ∷ os) p = read k (p + o) >>= λ d. parts_at read ks os p >>= λ ds. Some (more_parts d ds)
parts_at read [] os p = Some no_parts
parts_at read (k ∷ ks) [] p = None

-- the number or struct at p, whose structs nest within the fuel
unfoldable pub inline_at : ℕ → LaidSchema → Bytes → StoredKind → ℕ → Option Datum
inline_at zero L b kind p = None
inline_at (suc fuel) L b (scalar_kind base) p = Some (a_number (scalar_of base (num b p (base_size base))))
inline_at (suc fuel) L b (struct_kind s) p =
    parts_at (λ k q. inline_at fuel L b k q) (parts_of L s) (struct_at L s).offsets p >>= λ ds. Some (a_struct ds)
inline_at (suc fuel) L b _ p = None

-- through a reference
abbrev pub through : LaidSchema → Bytes → Sort → ℕ → (Sort → ℕ → Option Datum) → Option Datum
through L b (ref_place X) p read = unless (fault_at L b (ref_place X) p) (read (part_place X) (p + num b p 4))
through L b (part_place X) p read = read (part_place X) p
through L b (inline_place kind) p read = read (inline_place kind) p
through L b (code_place u k required here) p read = None
through L b (unknown_place c) p read = None

abbrev pub element_at : LaidSchema → Bytes → StoredKind → ℕ → Option Target → (Sort → ℕ → Option Datum)
    → (StoredKind → ℕ → Option Datum) → Option Datum
element_at L b kind p None read read_inline = read_inline kind p
element_at L b kind p (Some X) read read_inline = through L b (ref_place X) p read

-- the n elements from p on
unfoldable pub items_at : LaidSchema → Bytes → (Sort → ℕ → Option Datum) → (StoredKind → ℕ → Option Datum) → StoredKind
    → ℕ → ℕ → Option Parts
items_at L b read read_inline kind p zero = Some no_parts
items_at L b read read_inline kind p (suc n) =
    element_at L b kind p (target_of kind) read read_inline >>= λ d. items_at L b read read_inline kind
    (p + size_of L kind) n >>= λ ds. Some (more_parts d ds)

abbrev pub default_entry : Option ℤ → SlotEntries → SlotEntries
default_entry None ss = absent_entry ss
default_entry (Some n) ss = present_entry (a_number n) ss

-- the entry at a place, in front of the later ones
abbrev pub entry_at : LaidSchema → Bytes → (Sort → ℕ → Option Datum) → Sort → ℕ → SlotEntries → Option SlotEntries
entry_at L b read (code_place u k required here) p ss =
    unless (fault_at L b (code_place u k required here) p) (Some (absent_entry ss))
entry_at L b read (unknown_place c) p ss = Some (present_entry (an_unknown c) ss)
entry_at L b read (ref_place X) p ss = through L b (ref_place X) p read >>= λ d. Some (present_entry d ss)
entry_at L b read (part_place X) p ss = through L b (part_place X) p read >>= λ d. Some (present_entry d ss)
entry_at L b read (inline_place kind) p ss = through L b (inline_place kind) p read >>= λ d. Some (present_entry d ss)

abbrev pub slot_at : LaidSchema → Bytes → (Sort → ℕ → Option Datum) → Slot → Option Place → SlotEntries
    → Option SlotEntries
slot_at L b read f None ss = Some (default_entry (f.if_absent) ss)
slot_at L b read f (Some x) ss = entry_at L b read x.sort x.at ss

unfoldable pub slots_at : LaidSchema → Bytes → (Sort → ℕ → Option Datum) → List Slot → List (Option Place)
    → Option SlotEntries
slots_at L b read [] [] = Some no_entries
slots_at L b read [] (x ∷ xs) = None
slots_at L b read (f ∷ fs) [] = None
slots_at L b read (f ∷ fs) (x ∷ xs) = slots_at L b read fs xs >>= λ ss. slot_at L b read f x ss

-- the value at a place that is no reference
unfoldable pub datum_at : ℕ → LaidSchema → Bytes → Sort → ℕ → Option Datum
datum_at zero L b sort p = None
datum_at (suc fuel) L b (inline_place kind) p =
    unless (fault_at L b (inline_place kind) p) (inline_at (suc fuel) L b kind p)
datum_at (suc fuel) L b (part_place text_part) p =
    unless (fault_at L b (part_place text_part) p) (Some (a_text (part_of b (p + 4) (num b p 4))))
datum_at (suc fuel) L b (part_place (vector_part kind)) p =
    unless (fault_at L b (part_place (vector_part kind)) p)
    (items_at L b (λ s q. datum_at fuel L b s q) (λ k q. inline_at fuel L b k q) kind (p + 4) (num b p 4) >>=
    λ ds. Some (a_vector ds))
datum_at (suc fuel) L b (part_place (table_part t)) p =
    unless (fault_at L b (part_place (table_part t)) p)
    (slots_at L b (λ s q. datum_at fuel L b s q) (slots_of L t) (named_slots L b p 0 (slots_of L t)) >>= λ ss. Some
    (a_table t ss))
datum_at (suc fuel) L b (part_place (member_part c t)) p =
    datum_at fuel L b (part_place (table_part t)) p >>= λ d. Some (a_member c d)
datum_at (suc fuel) L b _ p = None

-- Enough levels: one for each struct in another, and two for each position, since a member takes one more than its
-- table.
abbrev pub value_levels : LaidSchema → Bytes → ℕ → ℕ
value_levels L b p = (length L.schema.types + 2 * (length b - p)) + 4

-- the same without levels
unfoldable pub value_at : LaidSchema → Bytes → Sort → ℕ → Option Datum
value_at L b sort p = datum_at (value_levels L b p) L b sort p

unfoldable pub inline_value : LaidSchema → Bytes → StoredKind → ℕ → Option Datum
inline_value L b kind p = inline_at (length L.schema.types + 2) L b kind p

-- one step of it
abbrev pub inline_step : LaidSchema → Bytes → StoredKind → ℕ → Option Datum
inline_step L b (scalar_kind base) p = Some (a_number (scalar_of base (num b p (base_size base))))
inline_step L b (struct_kind s) p =
    parts_at (inline_value L b) (parts_of L s) (struct_at L s).offsets p >>= λ ds. Some (a_struct ds)
inline_step L b _ p = None

abbrev pub value_step : LaidSchema → Bytes → Sort → ℕ → Option Datum
value_step L b (inline_place kind) p = unless (fault_at L b (inline_place kind) p) (inline_value L b kind p)
value_step L b (part_place text_part) p =
    unless (fault_at L b (part_place text_part) p) (Some (a_text (part_of b (p + 4) (num b p 4))))
value_step L b (part_place (vector_part kind)) p =
    unless (fault_at L b (part_place (vector_part kind)) p)
    (items_at L b (value_at L b) (inline_value L b) kind (p + 4) (num b p 4) >>= λ ds. Some (a_vector ds))
value_step L b (part_place (table_part t)) p =
    unless (fault_at L b (part_place (table_part t)) p)
    (slots_at L b (value_at L b) (slots_of L t) (named_slots L b p 0 (slots_of L t)) >>= λ ss. Some (a_table t ss))
value_step L b (part_place (member_part c t)) p =
    value_at L b (part_place (table_part t)) p >>= λ d. Some (a_member c d)
value_step L b _ p = None
