-- Fields that are required, deprecated or optional.
use Rattle.std.specs.Prelude.{◌≡◌, [], ◌∷◌, false, None, Some, refl, pos}
use Rattle.std.proofs.Common.{lit≤}
use Rattle.fb_value.specs.declared.faults.ReadFault.TheVariants.{MissingRequired}
use Rattle.fb_value.specs.Datum.{Datum, a_number, a_table, no_entries, absent_entry, present_entry}
use Rattle.fb_value.specs.Num.{Bytes, num}
use Rattle.fb_value.specs.Places.{slot_number, named_slots, named_elements}
use Rattle.fb_value.specs.Rules.{first_failing, fault_by}
use Rattle.fb_value.specs.Faults.{all_within, all, limited_fault, first_fault, fault_from}
use Rattle.fb_value.specs.Holds.{header_fault, Holds, computed_fault}
use Rattle.fb_value.specs.ExampleLayouts.{usual, required_text, deprecated_int, optional_int, optional_and_int}
use Rattle.fb_value.specs.ExampleLayouts.{deprecated_optional}

-- a table whose vtable has no slots
abbrev pub bare_bytes : Bytes
bare_bytes = 8 ∷ 0 ∷ 0 ∷ 0 ∷ 4 ∷ 0 ∷ 4 ∷ 0 ∷ 4 ∷ 0 ∷ 0 ∷ 0 ∷ []

-- a table with nothing in slot 0 and 1 in slot 1
abbrev pub second_bytes : Bytes
second_bytes = 0x0c ∷ 0 ∷ 0 ∷ 0 ∷ 8 ∷ 0 ∷ 8 ∷ 0 ∷ 0 ∷ 0 ∷ 4 ∷ 0 ∷ 8 ∷ 0 ∷ 0 ∷ 0 ∷ 1 ∷ 0 ∷ 0 ∷ 0 ∷ []

-- a table whose one slot holds 0
abbrev pub stored_zero_bytes : Bytes
stored_zero_bytes = 0x0c ∷ 0 ∷ 0 ∷ 0 ∷ 0 ∷ 0 ∷ 6 ∷ 0 ∷ 8 ∷ 0 ∷ 4 ∷ 0 ∷ 6 ∷ 0 ∷ 0 ∷ 0 ∷ 0 ∷ 0 ∷ 0 ∷ 0 ∷ []

-- one slot without an entry
abbrev pub nothing : Datum
nothing = a_table 0 (absent_entry no_entries)

-- 0 in the one slot
abbrev pub zero_there : Datum
zero_there = a_table 0 (present_entry (a_number (pos 0)) no_entries)

-- no entry, and 1 in the second slot
abbrev pub second_alone : Datum
second_alone = a_table 0 (absent_entry (present_entry (a_number (pos 1)) no_entries))

-- A required slot that is absent is named with its table.
pub required_missing : computed_fault required_text usual false bare_bytes ≡ Some (MissingRequired 8 0)
unfolding num slot_number named_slots named_elements first_failing fault_by all_within all limited_fault first_fault
    fault_from header_fault
required_missing = refl

-- A deprecated slot has no entry, and no default.
pub deprecated_held : Holds deprecated_int usual false second_bytes second_alone
unfolding num slot_number named_slots first_failing fault_by header_fault
deprecated_held = record {
  header = refl;
  lies = (refl, (refl, refl, (refl, ((refl, refl), tt))));
  deep = lit≤ tt;
  small = lit≤ tt;
}

-- The computing program finds no fault there.
pub deprecated_kept : computed_fault deprecated_int usual false second_bytes ≡ None
unfolding num slot_number named_slots named_elements first_failing fault_by all_within all limited_fault first_fault
    fault_from header_fault
deprecated_kept = refl

-- A stored 0 is present.
pub optional_zero_held : Holds optional_int usual false stored_zero_bytes zero_there
unfolding num slot_number named_slots first_failing fault_by header_fault
optional_zero_held =
    record { header = refl; lies = (refl, (refl, refl, ((refl, refl), tt))); deep = lit≤ tt; small = lit≤ tt }

-- The computing program finds no fault there.
pub optional_zero_kept : computed_fault optional_int usual false stored_zero_bytes ≡ None
unfolding num slot_number named_slots named_elements first_failing fault_by all_within all limited_fault first_fault
    fault_from header_fault
optional_zero_kept = refl

-- An optional number that isn't stored is absent.
pub optional_absent_held : Holds optional_int usual false bare_bytes nothing
unfolding num slot_number named_slots first_failing fault_by header_fault
optional_absent_held =
    record { header = refl; lies = (refl, (refl, refl, (refl, tt))); deep = lit≤ tt; small = lit≤ tt }

-- The computing program finds no fault there.
pub optional_absent_kept : computed_fault optional_int usual false bare_bytes ≡ None
unfolding num slot_number named_slots named_elements first_failing fault_by all_within all limited_fault first_fault
    fault_from header_fault
optional_absent_kept = refl

-- The first of two slots is optional and absent.
pub optional_before_held : Holds optional_and_int usual false second_bytes second_alone
unfolding num slot_number named_slots first_failing fault_by header_fault
optional_before_held =
    record { header = refl; lies = (refl, (refl, refl, (refl, ((refl, refl), tt)))); deep = lit≤ tt; small = lit≤ tt }

-- The computing program finds no fault there.
pub optional_before_kept : computed_fault optional_and_int usual false second_bytes ≡ None
unfolding num slot_number named_slots named_elements first_failing fault_by all_within all limited_fault first_fault
    fault_from header_fault
optional_before_kept = refl

-- Once it is deprecated, the same bytes hold the same.
pub deprecated_optional_held : Holds deprecated_optional usual false second_bytes second_alone
unfolding num slot_number named_slots first_failing fault_by header_fault
deprecated_optional_held =
    record { header = refl; lies = (refl, (refl, refl, (refl, ((refl, refl), tt)))); deep = lit≤ tt; small = lit≤ tt }

-- The computing program finds no fault there.
pub deprecated_optional_kept : computed_fault deprecated_optional usual false second_bytes ≡ None
unfolding num slot_number named_slots named_elements first_failing fault_by all_within all limited_fault first_fault
    fault_from header_fault
deprecated_optional_kept = refl
