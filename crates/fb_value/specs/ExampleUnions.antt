-- Unions in bytes: members, none, and codes that the schema doesn't know.
use Rattle.std.specs.Prelude.{◌≡◌, [], ◌∷◌, false, None, Some, refl, pos, set}
use Rattle.std.proofs.Common.{lit≤}
use Rattle.fb_value.specs.declared.faults.ReadFault.TheVariants.{UnionMismatch}
use Rattle.fb_value.specs.Datum.{Datum, a_number, a_table, a_member, an_unknown, no_entries, absent_entry}
use Rattle.fb_value.specs.Datum.{present_entry}
use Rattle.fb_value.specs.Num.{Bytes, num}
use Rattle.fb_value.specs.Places.{slot_number, named_slots, named_elements}
use Rattle.fb_value.specs.Rules.{first_failing, fault_by}
use Rattle.fb_value.specs.Faults.{all_within, all, limited_fault, first_fault, fault_from}
use Rattle.fb_value.specs.Holds.{header_fault, Holds, computed_fault}
use Rattle.fb_value.specs.ExampleLayouts.{usual, two_members, three_members}

-- a union with code 2 in byte 19, and a table without slots
abbrev pub member_bytes : Bytes
member_bytes = 0x0c ∷ 0 ∷ 0 ∷ 0 ∷ 8 ∷ 0 ∷ 0x0c ∷ 0 ∷ 7 ∷ 0 ∷ 8 ∷ 0 ∷ 8 ∷ 0 ∷ 0 ∷ 0 ∷ 0 ∷ 0 ∷ 0 ∷ 2 ∷ 8 ∷ 0 ∷ 0 ∷ 0 ∷ 4
    ∷ 0 ∷ 4 ∷ 0 ∷ 4 ∷ 0 ∷ 0 ∷ 0 ∷ []

-- the second member, a table without slots
abbrev pub second_member : Datum
second_member = a_table 3 (absent_entry (present_entry (a_member 2 (a_table 1 no_entries)) no_entries))

-- no member
abbrev pub no_member : Datum
no_member = a_table 3 (absent_entry (absent_entry no_entries))

-- a code that no member has
abbrev pub third_code : Datum
third_code = a_table 3 (absent_entry (present_entry (an_unknown 3) no_entries))

-- A union's value is the member of its code; the code's slot has no entry.
pub member_held : Holds two_members usual false member_bytes second_member
unfolding num slot_number named_slots first_failing fault_by header_fault
member_held = record {
  header = refl;
  lies = (refl, (refl, refl, (refl, ((refl, (refl, (refl, refl, tt))), tt))));
  deep = lit≤ tt;
  small = lit≤ tt;
}

-- The computing program finds no fault there.
pub member_kept : computed_fault two_members usual false member_bytes ≡ None
unfolding num slot_number named_slots named_elements first_failing fault_by all_within all limited_fault first_fault
    fault_from header_fault
member_kept = refl

-- A code that no member has is read as that code, and its value is skipped.
pub unknown_held : Holds two_members usual false (set member_bytes 19 3) third_code
unfolding num slot_number named_slots first_failing fault_by header_fault
unknown_held = record {
  header = refl;
  lies = (refl, (refl, refl, (refl, (refl, tt))));
  deep = lit≤ tt;
  small = lit≤ tt;
}

-- The computing program finds no fault there.
pub unknown_kept : computed_fault two_members usual false (set member_bytes 19 3) ≡ None
unfolding num slot_number named_slots named_elements first_failing fault_by all_within all limited_fault first_fault
    fault_from header_fault
unknown_kept = refl

-- Code 0 is no member, and the value slot isn't looked at.
pub code_zero_held : Holds two_members usual false (set member_bytes 19 0) no_member
unfolding num slot_number named_slots first_failing fault_by header_fault
code_zero_held = record {
  header = refl;
  lies = (refl, (refl, refl, (refl, (refl, tt))));
  deep = lit≤ tt;
  small = lit≤ tt;
}

-- The computing program finds no fault there.
pub code_zero_kept : computed_fault two_members usual false (set member_bytes 19 0) ≡ None
unfolding num slot_number named_slots named_elements first_failing fault_by all_within all limited_fault first_fault
    fault_from header_fault
code_zero_kept = refl

-- A code other than 0 is refused where the value slot is absent.
pub code_without_value : computed_fault two_members usual false (set member_bytes 10 0) ≡ Some (UnionMismatch 19)
unfolding num slot_number named_slots named_elements first_failing fault_by all_within all limited_fault first_fault
    fault_from header_fault
code_without_value = refl

-- An absent code is 0.
pub value_without_code_held : Holds two_members usual false (set member_bytes 8 0) no_member
unfolding num slot_number named_slots first_failing fault_by header_fault
value_without_code_held =
    record { header = refl; lies = (refl, (refl, refl, (refl, (refl, tt)))); deep = lit≤ tt; small = lit≤ tt }

-- The computing program finds no fault there.
pub value_without_code_kept : computed_fault two_members usual false (set member_bytes 8 0) ≡ None
unfolding num slot_number named_slots named_elements first_failing fault_by all_within all limited_fault first_fault
    fault_from header_fault
value_without_code_kept = refl

-- a union with code 3, and a table whose one slot holds 5
abbrev pub third_bytes : Bytes
third_bytes =
    0x0c ∷ 0 ∷ 0 ∷ 0 ∷ 8 ∷ 0 ∷ 0x0c ∷ 0 ∷ 7 ∷ 0 ∷ 8 ∷ 0 ∷ 8 ∷ 0 ∷ 0 ∷ 0 ∷ 0 ∷ 0 ∷ 0 ∷ 3
    ∷ 0x0c ∷ 0 ∷ 0 ∷ 0 ∷ 0 ∷ 0 ∷ 6 ∷ 0 ∷ 8 ∷ 0 ∷ 4 ∷ 0 ∷ 6 ∷ 0 ∷ 0 ∷ 0 ∷ 5 ∷ 0 ∷ 0 ∷ 0 ∷ []

-- the third member, a table with 5
abbrev pub third_member : Datum
third_member = a_table 4
    (absent_entry (present_entry (a_member 3 (a_table 2 (present_entry (a_number (pos 5)) no_entries))) no_entries))

-- Under a schema with a third member it is read.
pub third_held : Holds three_members usual false third_bytes third_member
unfolding num slot_number named_slots first_failing fault_by header_fault
third_held = record {
  header = refl;
  lies = (refl, (refl, refl, (refl, ((refl, (refl, (refl, refl, ((refl, refl), tt)))), tt))));
  deep = lit≤ tt;
  small =
      lit≤ tt;
}

-- The computing program finds no fault there.
pub third_kept : computed_fault three_members usual false third_bytes ≡ None
unfolding num slot_number named_slots named_elements first_failing fault_by all_within all limited_fault first_fault
    fault_from header_fault
third_kept = refl

-- Under the older schema the same bytes hold the unknown code.
pub newer_held : Holds two_members usual false third_bytes third_code
unfolding num slot_number named_slots first_failing fault_by header_fault
newer_held = record { header = refl; lies = (refl, (refl, refl, (refl, (refl, tt)))); deep = lit≤ tt; small = lit≤ tt }

-- The computing program finds no fault there.
pub newer_kept : computed_fault two_members usual false third_bytes ≡ None
unfolding num slot_number named_slots named_elements first_failing fault_by all_within all limited_fault first_fault
    fault_from header_fault
newer_kept = refl
