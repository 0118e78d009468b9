-- A union that is required: present, and missing in its three ways.
use Rattle.std.specs.Prelude.{◌≡◌, [], ◌∷◌, false, true, set, None, Some, refl}
use Rattle.std.proofs.Common.{lit≤}
use Rattle.fb_schema.specs.declared.kinds.Kind.TheVariants.{Code, Union}
use Rattle.fb_schema.specs.declared.kinds.Shape.TheVariants.{One}
use Rattle.fb_schema.specs.Schema.{table_body, union_body}
use Rattle.fb_layout.specs.Laid.{LaidSchema}
use Rattle.fb_value.specs.declared.faults.ReadFault.TheVariants.{MissingRequired}
use Rattle.fb_value.specs.Num.{num}
use Rattle.fb_value.specs.Places.{slot_number, named_slots, named_elements}
use Rattle.fb_value.specs.Rules.{first_failing, fault_by}
use Rattle.fb_value.specs.Faults.{all_within, all, limited_fault, first_fault, fault_from}
use Rattle.fb_value.specs.Holds.{header_fault, Holds, computed_fault}
use Rattle.fb_value.specs.ExampleLayouts.{usual, plain, letter, type_called, without_structs}
use Rattle.fb_value.specs.ExampleUnions.{member_bytes, second_member}

-- table A {} table B {} union U { A, B } table T { u:U (required); } root_type T;
abbrev pub required_union : LaidSchema
required_union = without_structs 3 (
    type_called 0x41 (table_body [])
    ∷ type_called 0x42 (table_body [])
    ∷ type_called 0x55 (union_body ((letter 0x41, 0) ∷ (letter 0x42, 1) ∷ []))
    ∷ type_called 0x54 (table_body (
    plain (0x75 ∷ 0x5f ∷ 0x74 ∷ 0x79 ∷ 0x70 ∷ 0x65 ∷ []) 0 (One (Code (record { 0 = 2 })))
    ∷ record (plain (letter 0x75) 1 (One (Union (record { 0 = 2 })))) { required = true }
    ∷ []))
    ∷ [])

-- A member is there.
pub required_member_held : Holds required_union usual false member_bytes second_member
unfolding num slot_number named_slots first_failing fault_by header_fault
required_member_held =
    record {
      header = refl;
      lies = (refl, (refl, refl, (refl, ((refl, (refl, (refl, refl, tt))), tt))));
      deep = lit≤ tt;
      small = lit≤ tt;
    }

-- The computing program finds no fault there.
pub required_member_kept : computed_fault required_union usual false member_bytes ≡ None
unfolding num slot_number named_slots named_elements first_failing fault_by all_within all limited_fault first_fault
    fault_from header_fault
required_member_kept = refl

-- Without a code it is missing, told at the table with the slot of the value.
pub without_code : computed_fault required_union usual false (set member_bytes 8 0) ≡ Some (MissingRequired 12 1)
unfolding num slot_number named_slots named_elements first_failing fault_by all_within all limited_fault first_fault
    fault_from header_fault
without_code = refl

-- So it is without a value.
pub without_value : computed_fault required_union usual false (set member_bytes 10 0) ≡ Some (MissingRequired 12 1)
unfolding num slot_number named_slots named_elements first_failing fault_by all_within all limited_fault first_fault
    fault_from header_fault
without_value = refl

-- A stored code of 0 is told at the code's own byte.
pub with_code_zero : computed_fault required_union usual false (set member_bytes 19 0) ≡ Some (MissingRequired 19 1)
unfolding num slot_number named_slots named_elements first_failing fault_by all_within all limited_fault first_fault
    fault_from header_fault
with_code_zero = refl
