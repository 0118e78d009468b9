-- Tables of numbers in bytes, whole and damaged.
use Rattle.std.specs.Prelude.{ℕ, ◌≡◌, [], ◌∷◌, take, set, false, pos, None, Some, refl}
use Rattle.std.proofs.Common.{lit≤}
use Rattle.fb_value.specs.declared.faults.ReadFault.TheVariants.{Short, OutOfBounds, ZeroOffset, Misaligned, BadVtable}
use Rattle.fb_value.specs.Datum.{Datum, a_number, a_table, no_entries, present_entry}
use Rattle.fb_value.specs.Num.{Bytes, num}
use Rattle.fb_value.specs.Places.{slot_number, named_slots, named_elements}
use Rattle.fb_value.specs.Rules.{first_failing, fault_by}
use Rattle.fb_value.specs.Faults.{all_within, all, limited_fault, first_fault, fault_from}
use Rattle.fb_value.specs.Holds.{header_fault, Holds, computed_fault}
use Rattle.fb_value.specs.ExampleLayouts.{usual, one_int, two_ints, one_bool}

abbrev pub one_number : ℕ → Datum
one_number n = a_table 0 (present_entry (a_number (pos n)) no_entries)

abbrev pub two_numbers : ℕ → ℕ → Datum
two_numbers m n = a_table 0 (present_entry (a_number (pos m)) (present_entry (a_number (pos n)) no_entries))

-- a table whose one slot holds 7
abbrev pub seven_bytes : Bytes
seven_bytes = 0x0c ∷ 0 ∷ 0 ∷ 0 ∷ 0 ∷ 0 ∷ 6 ∷ 0 ∷ 8 ∷ 0 ∷ 4 ∷ 0 ∷ 6 ∷ 0 ∷ 0 ∷ 0 ∷ 7 ∷ 0 ∷ 0 ∷ 0 ∷ []

-- a table whose slots hold 7 and 9
abbrev pub two_slots_bytes : Bytes
two_slots_bytes = 0x0c ∷ 0 ∷ 0 ∷ 0 ∷ 8 ∷ 0 ∷ 0x0c ∷ 0 ∷ 8 ∷ 0 ∷ 4 ∷ 0 ∷ 8 ∷ 0 ∷ 0 ∷ 0 ∷ 9 ∷ 0 ∷ 0 ∷ 0 ∷ 7 ∷ 0 ∷ 0 ∷ 0
    ∷ []

-- a table whose one slot holds the byte 2
abbrev pub bool_bytes : Bytes
bool_bytes = 0x0c ∷ 0 ∷ 0 ∷ 0 ∷ 0 ∷ 0 ∷ 6 ∷ 0 ∷ 8 ∷ 0 ∷ 7 ∷ 0 ∷ 6 ∷ 0 ∷ 0 ∷ 0 ∷ 0 ∷ 0 ∷ 0 ∷ 2 ∷ []

-- A stored number is read.
pub seven_held : Holds one_int usual false seven_bytes (one_number 7)
unfolding num slot_number named_slots first_failing fault_by header_fault
seven_held = record { header = refl; lies = (refl, (refl, refl, ((refl, refl), tt))); deep = lit≤ tt; small = lit≤ tt }

-- The computing program finds no fault there.
pub seven_kept : computed_fault one_int usual false seven_bytes ≡ None
unfolding num slot_number named_slots named_elements first_failing fault_by all_within all limited_fault first_fault
    fault_from header_fault
seven_kept = refl

-- A stored number may be the default: the slot has it as an absent one would.
pub zero_held : Holds one_int usual false (set seven_bytes 16 0) (one_number 0)
unfolding num slot_number named_slots first_failing fault_by header_fault
zero_held = record { header = refl; lies = (refl, (refl, refl, ((refl, refl), tt))); deep = lit≤ tt; small = lit≤ tt }

-- The computing program finds no fault there.
pub zero_kept : computed_fault one_int usual false (set seven_bytes 16 0) ≡ None
unfolding num slot_number named_slots named_elements first_failing fault_by all_within all limited_fault first_fault
    fault_from header_fault
zero_kept = refl

-- Under a schema with one slot the second slot isn't seen.
pub known_slot_held : Holds one_int usual false two_slots_bytes (one_number 7)
unfolding num slot_number named_slots first_failing fault_by header_fault
known_slot_held = record {
  header = refl;
  lies = (refl, (refl, refl, ((refl, refl), tt)));
  deep = lit≤ tt;
  small = lit≤ tt;
}

-- The computing program finds no fault there.
pub known_slot_kept : computed_fault one_int usual false two_slots_bytes ≡ None
unfolding num slot_number named_slots named_elements first_failing fault_by all_within all limited_fault first_fault
    fault_from header_fault
known_slot_kept = refl

-- Under a schema with both slots both are read.
pub both_slots_held : Holds two_ints usual false two_slots_bytes (two_numbers 7 9)
unfolding num slot_number named_slots first_failing fault_by header_fault
both_slots_held = record {
  header = refl;
  lies = (refl, (refl, refl, ((refl, refl), ((refl, refl), tt))));
  deep = lit≤ tt;
  small = lit≤ tt;
}

-- The computing program finds no fault there.
pub both_slots_kept : computed_fault two_ints usual false two_slots_bytes ≡ None
unfolding num slot_number named_slots named_elements first_failing fault_by all_within all limited_fault first_fault
    fault_from header_fault
both_slots_kept = refl

-- A slot after the vtable's end has its default.
pub later_slot_held : Holds two_ints usual false seven_bytes (two_numbers 7 0)
unfolding num slot_number named_slots first_failing fault_by header_fault
later_slot_held = record {
  header = refl;
  lies = (refl, (refl, refl, ((refl, refl), ((pos 0, refl, refl), tt))));
  deep = lit≤ tt;
  small = lit≤ tt;
}

-- The computing program finds no fault there.
pub later_slot_kept : computed_fault two_ints usual false seven_bytes ≡ None
unfolding num slot_number named_slots named_elements first_failing fault_by all_within all limited_fault first_fault
    fault_from header_fault
later_slot_kept = refl

-- A `bool` byte other than 0 is 1.
pub bool_held : Holds one_bool usual false bool_bytes (one_number 1)
unfolding num slot_number named_slots first_failing fault_by header_fault
bool_held = record { header = refl; lies = (refl, (refl, refl, ((refl, refl), tt))); deep = lit≤ tt; small = lit≤ tt }

-- The computing program finds no fault there.
pub bool_kept : computed_fault one_bool usual false bool_bytes ≡ None
unfolding num slot_number named_slots named_elements first_failing fault_by all_within all limited_fault first_fault
    fault_from header_fault
bool_kept = refl

-- The number is cut off.
pub cut_to_16 : computed_fault one_int usual false (take 16 seven_bytes) ≡ Some (OutOfBounds 16)
unfolding num slot_number named_slots named_elements first_failing fault_by all_within all limited_fault first_fault
    fault_from header_fault
cut_to_16 = refl

-- The table's first number is cut off.
pub cut_to_14 : computed_fault one_int usual false (take 14 seven_bytes) ≡ Some (OutOfBounds 12)
unfolding num slot_number named_slots named_elements first_failing fault_by all_within all limited_fault first_fault
    fault_from header_fault
cut_to_14 = refl

-- The table and its vtable are cut off.
pub cut_to_8 : computed_fault one_int usual false (take 8 seven_bytes) ≡ Some (OutOfBounds 12)
unfolding num slot_number named_slots named_elements first_failing fault_by all_within all limited_fault first_fault
    fault_from header_fault
cut_to_8 = refl

-- The root's reference is cut off.
pub cut_to_3 : computed_fault one_int usual false (take 3 seven_bytes) ≡ Some (Short 3)
unfolding num slot_number named_slots named_elements first_failing fault_by all_within all limited_fault first_fault
    fault_from header_fault
cut_to_3 = refl

-- Nothing is left.
pub cut_to_0 : computed_fault one_int usual false (take 0 seven_bytes) ≡ Some (Short 0)
unfolding num slot_number named_slots named_elements first_failing fault_by all_within all limited_fault first_fault
    fault_from header_fault
cut_to_0 = refl

-- A reference is never 0.
pub zero_reference : computed_fault one_int usual false (set seven_bytes 0 0) ≡ Some (ZeroOffset 0)
unfolding num slot_number named_slots named_elements first_failing fault_by all_within all limited_fault first_fault
    fault_from header_fault
zero_reference = refl

-- A table stands at a multiple of 4.
pub odd_table : computed_fault one_int usual false (set seven_bytes 0 0x0d) ≡ Some (Misaligned 13)
unfolding num slot_number named_slots named_elements first_failing fault_by all_within all limited_fault first_fault
    fault_from header_fault
odd_table = refl

-- A vtable stands at an even position.
pub odd_vtable : computed_fault one_int usual false (set seven_bytes 12 7) ≡ Some (BadVtable 12)
unfolding num slot_number named_slots named_elements first_failing fault_by all_within all limited_fault first_fault
    fault_from header_fault
odd_vtable = refl
