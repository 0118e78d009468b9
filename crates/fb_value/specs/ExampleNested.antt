-- Vectors without elements, and structs in structs.
use Rattle.std.specs.Prelude.{◌≡◌, [], ◌∷◌, set, false, None, Some, refl, pos}
use Rattle.std.proofs.Common.{lit≤, arith}
use Rattle.fb_schema.specs.declared.kinds.Base.TheVariants.{U8, U32, I64}
use Rattle.fb_schema.specs.declared.kinds.Kind.TheVariants.{Scalar, Struct}
use Rattle.fb_schema.specs.declared.kinds.Shape.TheVariants.{One, Many}
use Rattle.fb_schema.specs.Schema.{table_body, struct_body, force_align_in, body_at}
use Rattle.fb_layout.specs.Laid.{LaidSchema, no_struct, parts_of, struct_at}
use Rattle.fb_layout.specs.WellMade.{IsStructLaid}
use Rattle.fb_value.specs.declared.faults.ReadFault.TheVariants.{Misaligned}
use Rattle.fb_value.specs.Datum.{Datum, a_number, a_vector, a_struct, a_table, no_parts, more_parts, no_entries}
use Rattle.fb_value.specs.Datum.{present_entry}
use Rattle.fb_value.specs.Num.{Bytes, num}
use Rattle.fb_value.specs.Places.{slot_number, named_slots, named_elements}
use Rattle.fb_value.specs.Rules.{first_failing, fault_by}
use Rattle.fb_value.specs.Faults.{all_within, all, limited_fault, first_fault, fault_from}
use Rattle.fb_value.specs.Holds.{header_fault, Holds, computed_fault}
use Rattle.fb_value.specs.ExampleLayouts.{usual, plain, letter, type_called, laid, root_alone}

-- table T { v:[long]; }
abbrev pub one_vector : LaidSchema
one_vector = root_alone (plain (letter 0x76) 0 (Many (Scalar I64)) ∷ [])

-- a table at 12, and a count of 0 at 24
abbrev pub no_elements_bytes : Bytes
no_elements_bytes = 0x0c ∷ 0 ∷ 0 ∷ 0 ∷ 0 ∷ 0 ∷ 6 ∷ 0 ∷ 8 ∷ 0 ∷ 4 ∷ 0 ∷ 6 ∷ 0 ∷ 0 ∷ 0 ∷ 8 ∷ 0 ∷ 0 ∷ 0 ∷ 0 ∷ 0 ∷ 0 ∷ 0 ∷ 0
    ∷ 0 ∷ 0 ∷ 0 ∷ []

abbrev pub no_elements : Datum
no_elements = a_table 0 (present_entry (a_vector no_parts) no_entries)

-- Where a vector has no element, nothing after its count has to be aligned to 8.
pub no_elements_held : Holds one_vector usual false no_elements_bytes no_elements
unfolding num slot_number named_slots first_failing fault_by header_fault
no_elements_held = record {
  header = refl;
  lies = (refl, (refl, refl, ((refl, (refl, refl, tt)), tt)));
  deep = lit≤ tt;
  small = lit≤ tt;
}

-- The computing program finds no fault there.
pub no_elements_kept : computed_fault one_vector usual false no_elements_bytes ≡ None
unfolding num slot_number named_slots named_elements first_failing fault_by all_within all limited_fault first_fault
    fault_from header_fault
no_elements_kept = refl

-- With one element it has to be.
pub element_misaligned : computed_fault one_vector usual false (set no_elements_bytes 24 1) ≡ Some (Misaligned 24)
unfolding num slot_number named_slots named_elements first_failing fault_by all_within all limited_fault first_fault
    fault_from header_fault
element_misaligned = refl

-- struct A { x:ubyte; y:uint; } struct B { a:A; z:ubyte; } table T { b:B; } root_type T;
abbrev pub nested_structs : LaidSchema
nested_structs = laid 2
    (type_called 0x41 (struct_body
    (plain (letter 0x78) 0 (One (Scalar U8)) ∷ plain (letter 0x79) 1 (One (Scalar U32)) ∷ []) None)
    ∷ type_called 0x42 (struct_body
    (plain (letter 0x61) 0 (One (Struct (record { 0 = 0 }))) ∷ plain (letter 0x7a) 1 (One (Scalar U8)) ∷ []) None)
    ∷ type_called 0x54 (table_body (plain (letter 0x62) 0 (One (Struct (record { 0 = 1 }))) ∷ []))
    ∷ [])
    (record { size = 8; align = 4; offsets = 0 ∷ 4 ∷ [] } ∷ record { size = 12; align = 4; offsets = 0 ∷ 8 ∷ [] }
    ∷ no_struct ∷ [])

-- The outer struct's second field stands after the inner one's end.
pub outer_laid : IsStructLaid nested_structs (parts_of nested_structs 1)
    (force_align_in (body_at nested_structs.schema 1)) (struct_at nested_structs 1)
outer_laid = record {
  end = 9;
  fields = (
    record { multiple = (0, refl); above = lit≤ tt; least = λ k h. omega arith },
    (record { multiple = (8, refl); above = lit≤ tt; least = λ k h. omega arith }, refl),
  );
  forced = λ a e. cc;
  aligned = refl;
  sized = record { multiple = (3, refl); above = lit≤ tt; least = λ k h. omega arith };
}

-- a table at 12 whose one slot is a struct of 12 bytes
abbrev pub nested_bytes : Bytes
nested_bytes =
    0x0c ∷ 0 ∷ 0 ∷ 0 ∷ 0 ∷ 0 ∷ 6 ∷ 0 ∷ 0x10 ∷ 0 ∷ 4 ∷ 0 ∷ 6 ∷ 0 ∷ 0 ∷ 0
    ∷ 1 ∷ 0 ∷ 0 ∷ 0 ∷ 2 ∷ 0 ∷ 0 ∷ 0 ∷ 3 ∷ 0 ∷ 0 ∷ 0 ∷ []

-- 1 and 2 in the inner struct, 3 after it
abbrev pub nested : Datum
nested = a_table 2 (present_entry
    (a_struct (more_parts (a_struct (more_parts (a_number (pos 1)) (more_parts (a_number (pos 2)) no_parts)))
    (more_parts (a_number (pos 3)) no_parts))) no_entries)

-- A struct in a struct lies at its offset there.
pub nested_held : Holds nested_structs usual false nested_bytes nested
unfolding num slot_number named_slots first_failing fault_by header_fault
nested_held = record {
  header = refl;
  lies = (refl, (refl, refl, ((refl, ((refl, (refl, tt)), (refl, tt))), tt)));
  deep = lit≤ tt;
  small = lit≤ tt;
}

-- The computing program finds no fault there.
pub nested_kept : computed_fault nested_structs usual false nested_bytes ≡ None
unfolding num slot_number named_slots named_elements first_failing fault_by all_within all limited_fault first_fault
    fault_from header_fault
nested_kept = refl
