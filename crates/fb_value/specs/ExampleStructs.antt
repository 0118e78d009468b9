-- Structs in bytes: in their table, and as elements of a vector.
use Rattle.std.specs.Prelude.{◌≡◌, ◌≤◌, [], ◌∷◌, false, length, None, Some, refl, pos, ℕ, ◌++◌, replicate}
use Rattle.std.specs.Str.Lossy.{utf8_valid_len}
use Rattle.std.specs.Str.{is_utf8, chars}
use Rattle.std.proofs.Common.{lit≤, arith}
use Rattle.fb_schema.specs.Schema.{force_align_in, body_at}
use Rattle.fb_layout.specs.Laid.{parts_of, struct_at}
use Rattle.fb_layout.specs.WellMade.{IsStructLaid}
use Rattle.fb_value.specs.declared.faults.ReadFault.TheVariants.{Misaligned}
use Rattle.fb_value.specs.Datum.{Datum, a_number, a_text, a_vector, a_struct, a_table, Parts, no_parts, more_parts}
use Rattle.fb_value.specs.Datum.{no_entries, present_entry}
use Rattle.fb_value.specs.Num.{Bytes, num}
use Rattle.fb_value.specs.Places.{slot_number, named_slots, named_elements}
use Rattle.fb_value.specs.Rules.{first_failing, fault_by}
use Rattle.fb_value.specs.Faults.{all_within, all, limited_fault, first_fault, fault_from}
use Rattle.fb_value.specs.Holds.{header_fault, Holds, computed_fault}
use Rattle.fb_value.specs.ExampleLayouts.{usual, one_struct, wide_structs}

-- The fields stand at 0, 8 and 16, and the struct takes 24 bytes.
pub fields_laid : IsStructLaid one_struct (parts_of one_struct 0) (force_align_in (body_at one_struct.schema 0))
    (struct_at one_struct 0)
fields_laid = record {
  end = 18;
  fields = (
    record { multiple = (0, refl); above = lit≤ tt; least = λ k h. omega arith },
    (
      record { multiple = (1, refl); above = lit≤ tt; least = λ k h. omega arith },
      (record { multiple = (8, refl); above = lit≤ tt; least = λ k h. omega arith }, refl),
    ),
  );
  forced = λ a e. cc;
  aligned = refl;
  sized = record { multiple = (3, refl); above = lit≤ tt; least = λ k h. omega arith };
}

-- a table whose one slot is a struct of 1, 2, 3
abbrev pub struct_bytes : Bytes
struct_bytes =
    0x0c ∷ 0 ∷ 0 ∷ 0 ∷ 0 ∷ 0 ∷ 6 ∷ 0 ∷ 0x1c ∷ 0 ∷ 4 ∷ 0 ∷ 6 ∷ 0 ∷ 0 ∷ 0
    ∷ 1 ∷ 0 ∷ 0 ∷ 0 ∷ 0 ∷ 0 ∷ 0 ∷ 0 ∷ 2 ∷ 0 ∷ 0 ∷ 0 ∷ 0 ∷ 0 ∷ 0 ∷ 0 ∷ 3 ∷ 0 ∷ 0 ∷ 0 ∷ 0 ∷ 0 ∷ 0 ∷ 0 ∷ []

-- a number as a part
abbrev pub part : ℕ → Parts → Parts
part n ds = more_parts (a_number (pos n)) ds

-- the struct in the one slot
abbrev pub struct_inline : Datum
struct_inline = a_table 1 (present_entry (a_struct (part 1 (part 2 (part 3 no_parts)))) no_entries)

-- A struct stands inline, each field at its offset.
pub struct_held : Holds one_struct usual false struct_bytes struct_inline
unfolding num slot_number named_slots first_failing fault_by header_fault
struct_held = record {
  header = refl;
  lies = (refl, (refl, refl, ((refl, (refl, (refl, (refl, tt)))), tt)));
  deep = lit≤ tt;
  small = lit≤ tt;
}

-- The computing program finds no fault there.
pub struct_kept : computed_fault one_struct usual false struct_bytes ≡ None
unfolding num slot_number named_slots named_elements first_failing fault_by all_within all limited_fault first_fault
    fault_from header_fault
struct_kept = refl

-- A `force_align` of 16 makes one byte a struct of 16.
pub forced_laid : IsStructLaid wide_structs (parts_of wide_structs 0) (force_align_in (body_at wide_structs.schema 0))
    (struct_at wide_structs 0)
forced_laid = record {
  end = 1;
  fields = (record { multiple = (0, refl); above = lit≤ tt; least = λ k h. omega arith }, refl);
  forced = λ a e. let is : 16 ≡ a = cc in rw (← is) (lit≤ tt);
  aligned = refl;
  sized = record { multiple = (1, refl); above = lit≤ tt; least = λ k h. omega arith };
}

-- what stands after the root's reference, with so many zero bytes in front: a text, a vector of two structs aligned to
-- 16, a number
abbrev pub wide_tail : ℕ → Bytes
wide_tail zeros =
    replicate zeros 0
    ++ 0x0a ∷ 0 ∷ 0x10 ∷ 0 ∷ 0x0c ∷ 0 ∷ 8 ∷ 0 ∷ 4 ∷ 0 ∷ 0x0a ∷ 0 ∷ 0 ∷ 0 ∷ 5 ∷ 0 ∷ 0 ∷ 0 ∷ 8 ∷ 0 ∷ 0 ∷ 0 ∷ 0x30 ∷ 0 ∷ 0
    ∷ 0
    ∷ 2 ∷ 0 ∷ 0 ∷ 0 ∷ 1 ∷ replicate 15 0 ++ 2 ∷ replicate 23 0 ++ 2 ∷ 0 ∷ 0 ∷ 0 ∷ 0x68 ∷ 0x69 ∷ 0 ∷ 0 ∷ []

-- the table at 28, the first struct at 48
abbrev pub wide_bytes : Bytes
wide_bytes = 0x1c ∷ 0 ∷ 0 ∷ 0 ∷ wide_tail 14

-- a multiple of 16
pub wide_length : length wide_bytes ≡ 96
wide_length = refl

-- the table at 20, the first struct at 40
abbrev pub narrow_bytes : Bytes
narrow_bytes = 0x14 ∷ 0 ∷ 0 ∷ 0 ∷ wide_tail 6

-- eight zero bytes less
pub narrow_length : length narrow_bytes ≡ 88
narrow_length = refl

-- the text `hi`, two structs, and 5
abbrev pub wide : Datum
wide = a_table 1 (
    present_entry (a_text (0x68 ∷ 0x69 ∷ []))
    (present_entry (a_vector
    (more_parts (a_struct (part 1 no_parts)) (more_parts (a_struct (part 2 no_parts)) no_parts)))
    (present_entry (a_number (pos 5)) no_entries)))

-- The elements of a vector stand at multiples of their alignment.
pub wide_held : Holds wide_structs usual false wide_bytes wide
unfolding num slot_number named_slots first_failing fault_by header_fault utf8_valid_len is_utf8 chars lib.Utf8.encode
wide_held = record {
  header = refl;
  lies = (
    refl,
    (
      refl,
      refl,
      ((refl, (refl, refl)), ((refl, (refl, refl, ((refl, tt), ((refl, tt), tt)))), ((refl, refl), tt))),
    ),
  );
  deep = lit≤ tt;
  small = lit≤ tt;
}

-- The computing program finds no fault there.
pub wide_kept : computed_fault wide_structs usual false wide_bytes ≡ None
unfolding num slot_number named_slots named_elements first_failing fault_by all_within all limited_fault first_fault
    fault_from header_fault utf8_valid_len is_utf8 chars lib.Utf8.encode
wide_kept = refl

-- Elements at a multiple of 8 alone are refused at the vector's count.
pub elements_misaligned : computed_fault wide_structs usual false narrow_bytes ≡ Some (Misaligned 36)
unfolding num slot_number named_slots named_elements first_failing fault_by all_within all limited_fault first_fault
    fault_from header_fault utf8_valid_len is_utf8 chars lib.Utf8.encode
elements_misaligned = refl
