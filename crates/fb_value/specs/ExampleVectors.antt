-- A vector of tables that share one vtable.
use Rattle.std.specs.Prelude.{◌≡◌, [], ◌∷◌, false, None, refl, pos, ℕ}
use Rattle.std.proofs.Common.{lit≤}
use Rattle.fb_value.specs.Datum.{Datum, a_number, a_vector, a_table, no_parts, more_parts, no_entries, present_entry}
use Rattle.fb_value.specs.Counts.{cells, depth}
use Rattle.fb_value.specs.Num.{Bytes, num}
use Rattle.fb_value.specs.Places.{slot_number, named_slots, named_elements}
use Rattle.fb_value.specs.Rules.{first_failing, fault_by}
use Rattle.fb_value.specs.Faults.{all_within, all, limited_fault, first_fault, fault_from}
use Rattle.fb_value.specs.Holds.{header_fault, Holds, computed_fault}
use Rattle.fb_value.specs.ExampleLayouts.{usual, table_vector}

-- three tables of two types, and one vtable for all
abbrev pub pair_bytes : Bytes
pair_bytes =
    4 ∷ 0 ∷ 0 ∷ 0 ∷ 0xe2 ∷ 0xff ∷ 0xff ∷ 0xff ∷ 4 ∷ 0 ∷ 0 ∷ 0 ∷ 2 ∷ 0 ∷ 0 ∷ 0 ∷ 0x18 ∷ 0 ∷ 0 ∷ 0 ∷ 4 ∷ 0 ∷ 0 ∷ 0
    ∷ 0xf6 ∷ 0xff ∷ 0xff ∷ 0xff ∷ 2 ∷ 0 ∷ 0 ∷ 0 ∷ 0 ∷ 0 ∷ 6 ∷ 0 ∷ 8 ∷ 0 ∷ 4 ∷ 0 ∷ 6 ∷ 0 ∷ 0 ∷ 0 ∷ 1 ∷ 0 ∷ 0 ∷ 0 ∷ []

-- a table of the vector
abbrev pub element : ℕ → Datum
element n = a_table 0 (present_entry (a_number (pos n)) no_entries)

-- the root with its two tables
abbrev pub pair : Datum
pair = a_table 1 (present_entry (a_vector (more_parts (element 1) (more_parts (element 2) no_parts))) no_entries)

-- The elements lie behind their references, in the vector's order and not the buffer's.
pub pair_held : Holds table_vector usual false pair_bytes pair
unfolding num slot_number named_slots first_failing fault_by header_fault named_elements
pair_held = record {
  header = refl;
  lies = (
    refl,
    (
      refl,
      refl,
      (
        (
          refl,
          (refl, refl, ((refl, (refl, refl, ((refl, refl), tt))), ((refl, (refl, refl, ((refl, refl), tt))), tt))),
        ),
        tt,
      ),
    ),
  );
  deep = lit≤ tt;
  small = lit≤ tt;
}

-- The computing program finds no fault there.
pub pair_kept : computed_fault table_vector usual false pair_bytes ≡ None
unfolding num slot_number named_slots named_elements first_failing fault_by all_within all limited_fault first_fault
    fault_from header_fault
pair_kept = refl

-- three tables, and a vector with two elements
pub pair_cells : cells pair ≡ 6
pair_cells = refl

-- tables within a table
pub pair_depth : depth pair ≡ 2
pair_depth = refl
