-- The file identifier after the root's reference.
use Rattle.std.specs.Prelude.{◌≡◌, [], ◌∷◌, set, take, true, false, pos, None, Some, refl}
use Rattle.std.proofs.Common.{lit≤}
use Rattle.fb_value.specs.declared.faults.ReadFault.TheVariants.{Short, WrongIdentifier}
use Rattle.fb_value.specs.Num.{Bytes, num}
use Rattle.fb_value.specs.Places.{slot_number, named_slots, named_elements}
use Rattle.fb_value.specs.Rules.{first_failing, fault_by}
use Rattle.fb_value.specs.Faults.{all_within, all, limited_fault, first_fault, fault_from}
use Rattle.fb_value.specs.Holds.{header_fault, Holds, computed_fault}
use Rattle.fb_value.specs.ExampleLayouts.{usual, identified_int}
use Rattle.fb_value.specs.ExampleTables.{one_number}

-- the identifier `TEST`, and a table whose vtable has no slots
abbrev pub test_bytes : Bytes
test_bytes = 0x0c ∷ 0 ∷ 0 ∷ 0 ∷ 0x54 ∷ 0x45 ∷ 0x53 ∷ 0x54 ∷ 4 ∷ 0 ∷ 4 ∷ 0 ∷ 4 ∷ 0 ∷ 0 ∷ 0 ∷ []

-- The identifier of the schema stands there.
pub identified_held : Holds identified_int usual false test_bytes (one_number 0)
unfolding num slot_number named_slots first_failing fault_by header_fault
identified_held = record {
  header = refl;
  lies = (refl, (refl, refl, ((pos 0, refl, refl), tt)));
  deep = lit≤ tt;
  small = lit≤ tt;
}

-- The computing program finds no fault there.
pub identified_kept : computed_fault identified_int usual false test_bytes ≡ None
unfolding num slot_number named_slots named_elements first_failing fault_by all_within all limited_fault first_fault
    fault_from header_fault
identified_kept = refl

-- Another identifier is refused.
pub wrong_identifier : computed_fault identified_int usual false (set test_bytes 4 0x55) ≡ Some (WrongIdentifier 4)
unfolding num slot_number named_slots named_elements first_failing fault_by all_within all limited_fault first_fault
    fault_from header_fault
wrong_identifier = refl

-- So is a buffer that ends inside it.
pub cut_identifier : computed_fault identified_int usual false (take 7 test_bytes) ≡ Some (Short 7)
unfolding num slot_number named_slots named_elements first_failing fault_by all_within all limited_fault first_fault
    fault_from header_fault
cut_identifier = refl

-- In raw bytes no identifier is checked.
pub raw_held : Holds identified_int usual true (set test_bytes 4 0x55) (one_number 0)
unfolding num slot_number named_slots first_failing fault_by header_fault
raw_held = record {
  header = refl;
  lies = (refl, (refl, refl, ((pos 0, refl, refl), tt)));
  deep = lit≤ tt;
  small = lit≤ tt;
}

-- The computing program finds no fault there.
pub raw_kept : computed_fault identified_int usual true (set test_bytes 4 0x55) ≡ None
unfolding num slot_number named_slots named_elements first_failing fault_by all_within all limited_fault first_fault
    fault_from header_fault
raw_kept = refl
