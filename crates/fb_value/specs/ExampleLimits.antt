-- Buffers that the limits of depth and cells refuse.
use Rattle.std.specs.Prelude.{ℕ, zero, suc, ◌+◌, ◌-◌, ◌/◌, ◌%◌, ◌≡◌, List, [], ◌∷◌, ◌++◌, length, false, Option, None}
use Rattle.std.specs.Prelude.{Some, refl}
use Rattle.std.specs.Str.Lossy.{utf8_valid_len}
use Rattle.std.specs.Str.{is_utf8, chars}
use Rattle.std.proofs.Common.{ap, lit≤}
use Rattle.fb_layout.specs.Laid.{slots_of}
use Rattle.fb_value.specs.declared.faults.ReadFault.{ReadFault}
use Rattle.fb_value.specs.declared.faults.ReadFault.TheVariants.{TooDeep, TooManyCells}
use Rattle.fb_value.specs.Bounds.{Bounds}
use Rattle.fb_value.specs.Datum.{Datum, a_table, no_entries, absent_entry, present_entry}
use Rattle.fb_value.specs.Counts.{cells}
use Rattle.fb_value.specs.Num.{Bytes, num}
use Rattle.fb_value.specs.Places.{table_part, ref_place, part_place, Place, slot_number, named_slots, named_elements}
use Rattle.fb_value.specs.Rules.{first_failing, fault_by, fault_at}
use Rattle.fb_value.specs.Lies.{Lies}
use Rattle.fb_value.specs.Faults.{all_within, all, limited_fault, first_fault, fault_from}
use Rattle.fb_value.specs.Holds.{header_fault, Holds, computed_fault}
use Rattle.fb_value.specs.ExampleLayouts.{usual, one_int, one_text, table_in_table, tables_in_table}
use Rattle.fb_value.specs.ExampleTexts.{hi_bytes}
use Rattle.fb_value.specs.ExampleTables.{seven_bytes}

-- Where no cell is allowed, the root's table is one too many.
pub no_cells : computed_fault one_int (record { depth = 64; cells = 0 }) false seven_bytes ≡ Some (TooManyCells 12)
unfolding num slot_number named_slots named_elements first_failing fault_by all_within all limited_fault first_fault
    fault_from header_fault
no_cells = refl

-- a number below 65,536 in four bytes
abbrev pub four : ℕ → Bytes
four n = (n % 256) ∷ (n / 256) ∷ 0 ∷ 0 ∷ []

-- the root's reference to 16, a vtable at 4 with one slot at 4, one at 10 with none, and two zero bytes
abbrev pub front : Bytes
front = four 16 ++ 6 ∷ 0 ∷ 8 ∷ 0 ∷ 4 ∷ 0 ∷ 4 ∷ 0 ∷ 4 ∷ 0 ∷ 0 ∷ 0 ∷ []

-- n tables from p on, each with a reference to the one after it, and a last one without
unfoldable pub tables_from : ℕ → ℕ → Bytes
tables_from p zero = four (p - 10)
tables_from p (suc n) = four (p - 4) ++ four 4 ++ tables_from (p + 8) n

-- 65 tables in one another, the last at 528
abbrev pub deep_bytes : Bytes
deep_bytes = front ++ tables_from 16 64

-- so many tables in one another above the last
unfoldable pub nested : ℕ → Datum
nested zero = a_table 0 (absent_entry no_entries)
nested (suc n) = a_table 0 (present_entry (nested n) no_entries)

abbrev pub deeper : Bounds
deeper = record { depth = 65; cells = 100000000 }

-- the front, 64 tables of 8 bytes, and one of 4
pub deep_length : length deep_bytes ≡ 532
unfolding tables_from
deep_length = refl

-- The last table is one too many.
pub too_deep : computed_fault table_in_table usual false deep_bytes ≡ Some (TooDeep 528)
unfolding num slot_number named_slots named_elements first_failing fault_by all_within all limited_fault first_fault
    fault_from header_fault tables_from
too_deep = refl

-- With one level more it isn't.
pub deep_kept : computed_fault table_in_table deeper false deep_bytes ≡ None
unfolding num slot_number named_slots named_elements first_failing fault_by all_within all limited_fault first_fault
    fault_from header_fault tables_from
deep_kept = refl

-- one cell for each table
pub nested_cells : cells (nested 64) ≡ 65
unfolding nested
nested_cells = refl

-- what is met at a table: its fault, the places that it names, and after its one slot the reference's fault and where
-- it leads
abbrev pub Met : Type 0
Met = Option ReadFault × List (Option Place) × Option ReadFault × ℕ

abbrev pub met_at : Bytes → ℕ → Met
met_at b p = (
  fault_at table_in_table b (part_place (table_part 0)) p,
  named_slots table_in_table b p 0 (slots_of table_in_table 0),
  fault_at table_in_table b (ref_place (table_part 0)) (p + 4),
  (p + 4) + num b (p + 4) 4,
)

-- at the last table, whose slot is absent
abbrev pub met_last : Bytes → ℕ → Met
met_last b p = (
  fault_at table_in_table b (part_place (table_part 0)) p,
  named_slots table_in_table b p 0 (slots_of table_in_table 0),
  None,
  0,
)

-- where each rule holds and the next table is 8 bytes further on
abbrev pub link : ℕ → Met
link p = (None, Some (record { sort = ref_place (table_part 0); at = p + 4 }) ∷ [], None, p + 8)

abbrev pub last_link : Met
last_link = (None, None ∷ [], None, 0)

-- at n tables, each 8 bytes after the one before, and at a last one
unfoldable pub met_from : Bytes → ℕ → ℕ → List Met
met_from b p zero = met_last b p ∷ []
met_from b p (suc n) = met_at b p ∷ met_from b (p + 8) n

unfoldable pub links_from : ℕ → ℕ → List Met
links_from p zero = last_link ∷ []
links_from p (suc n) = link p ∷ links_from (p + 8) n

-- each rule holds at each of the 65 tables
pub deep_chain : met_from deep_bytes 16 64 ≡ links_from 16 64
unfolding num slot_number named_slots first_failing fault_by tables_from met_from links_from
deep_chain = refl

-- Such a chain holds tables in one another.
pub chain_held : (b : Bytes) (n p : ℕ) → met_from b p n ≡ links_from p n
    → Lies table_in_table b (part_place (table_part 0)) p (nested n)
unfolding met_from links_from nested
chain_held b zero p e =
    let met : met_last b p ≡ last_link = cc in (
      ap (λ x. x.0) met,
      refl,
      rw (ap (λ x. x.1) met) (refl, tt),
    )
chain_held b (suc n) p e =
    let met : met_at b p ≡ link p = cc in
    let behind : Lies table_in_table b (part_place (table_part 0)) (p + 8) (nested n) = chain_held b n (p + 8) cc in
    let there = rw (← (ap (λ x. x.3) met)) at behind in (
      ap (λ x. x.0) met,
      refl,
      rw (ap (λ x. x.1) met) ((ap (λ x. x.2) met, there), tt),
    )

-- The tables in one another are held where so many are allowed.
pub deep_held : Holds table_in_table deeper false deep_bytes (nested 64)
unfolding num slot_number named_slots first_failing fault_by header_fault tables_from nested
deep_held = record {
  header = refl;
  lies = (refl, chain_held deep_bytes 64 16 deep_chain);
  deep = lit≤ tt;
  small = lit≤ tt;
}

-- n tables from p on, each with a vector of two references to the one after it, and a last one without
unfoldable pub pairs_from : ℕ → ℕ → Bytes
pairs_from p zero = four (p - 10)
pairs_from p (suc n) = four (p - 4) ++ four 4 ++ four 2 ++ four 8 ++ four 4 ++ pairs_from (p + 20) n

-- 30 levels, each of which stands twice in the one above: the cells of the whole are 2,684,354,556
abbrev pub doubled_bytes : Bytes
doubled_bytes = front ++ pairs_from 16 29

-- the front, 29 tables with their vectors, and a table of 4 bytes
pub doubled_length : length doubled_bytes ≡ 600
unfolding pairs_from
doubled_length = refl

-- A shared part counts as often as it is reached: 1,000 cells are spent when the last table is reached once more.
pub too_many_at_table : computed_fault tables_in_table (record { depth = 64; cells = 1000 }) false doubled_bytes
    ≡ Some (TooManyCells 596)
unfolding num slot_number named_slots named_elements first_failing fault_by all_within all limited_fault first_fault
    fault_from header_fault pairs_from
too_many_at_table = refl

-- With one cell less the vector above it is too much.
pub too_many_at_vector : computed_fault tables_in_table (record { depth = 64; cells = 999 }) false doubled_bytes
    ≡ Some (TooManyCells 584)
unfolding num slot_number named_slots named_elements first_failing fault_by all_within all limited_fault first_fault
    fault_from header_fault pairs_from
too_many_at_vector = refl

-- A text counts its bytes: 1 for the table, and 3 for the text `hi` are one more than 3.
pub too_many_at_text : computed_fault one_text (record { depth = 64; cells = 3 }) false hi_bytes
    ≡ Some (TooManyCells 20)
unfolding num slot_number named_slots named_elements first_failing fault_by all_within all limited_fault first_fault
    fault_from header_fault utf8_valid_len is_utf8 chars lib.Utf8.encode
too_many_at_text = refl

-- With 4 cells there is no fault.
pub text_kept : computed_fault one_text (record { depth = 64; cells = 4 }) false hi_bytes ≡ None
unfolding num slot_number named_slots named_elements first_failing fault_by all_within all limited_fault first_fault
    fault_from header_fault utf8_valid_len is_utf8 chars lib.Utf8.encode
text_kept = refl
