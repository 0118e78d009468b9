-- Numbers below 0, and defaults other than 0.
use Rattle.std.specs.Prelude.{◌≡◌, [], ◌∷◌, false, None, refl, ℤ, pos, negsuc}
use Rattle.std.proofs.Common.{lit≤}
use Rattle.fb_schema.specs.declared.kinds.Base.TheVariants.{I8}
use Rattle.fb_schema.specs.declared.kinds.Kind.TheVariants.{Scalar}
use Rattle.fb_schema.specs.declared.kinds.Shape.TheVariants.{One}
use Rattle.fb_layout.specs.Laid.{LaidSchema}
use Rattle.fb_value.specs.Datum.{Datum, a_number, a_table, no_entries, present_entry}
use Rattle.fb_value.specs.Num.{Bytes, num}
use Rattle.fb_value.specs.Places.{slot_number, named_slots, named_elements}
use Rattle.fb_value.specs.Rules.{first_failing, fault_by}
use Rattle.fb_value.specs.Faults.{all_within, all, limited_fault, first_fault, fault_from}
use Rattle.fb_value.specs.Holds.{header_fault, Holds, computed_fault}
use Rattle.fb_value.specs.ExampleLayouts.{usual, plain, letter, a_int, root_alone, one_int}
use Rattle.fb_value.specs.ExampleMarks.{bare_bytes, stored_zero_bytes}

-- table T { a:int = 5; }
abbrev pub five_by_default : LaidSchema
five_by_default = root_alone (record a_int { default = pos 5 } ∷ [])

-- table T { a:int = -3; }
abbrev pub below_zero_by_default : LaidSchema
below_zero_by_default = root_alone (record a_int { default = negsuc 2 } ∷ [])

-- table T { a:byte; }
abbrev pub one_byte : LaidSchema
one_byte = root_alone (plain (letter 0x61) 0 (One (Scalar I8)) ∷ [])

abbrev pub the_number : ℤ → Datum
the_number n = a_table 0 (present_entry (a_number n) no_entries)

-- a table whose one slot holds 4 bytes: fe ff ff ff
abbrev pub below_zero_bytes : Bytes
below_zero_bytes = 0x0c ∷ 0 ∷ 0 ∷ 0 ∷ 0 ∷ 0 ∷ 6 ∷ 0 ∷ 8 ∷ 0 ∷ 4 ∷ 0 ∷ 6 ∷ 0 ∷ 0 ∷ 0 ∷ 0xfe ∷ 0xff ∷ 0xff ∷ 0xff ∷ []

-- a table whose one slot holds the byte 80, at 19
abbrev pub least_byte_bytes : Bytes
least_byte_bytes = 0x0c ∷ 0 ∷ 0 ∷ 0 ∷ 0 ∷ 0 ∷ 6 ∷ 0 ∷ 8 ∷ 0 ∷ 7 ∷ 0 ∷ 6 ∷ 0 ∷ 0 ∷ 0 ∷ 0 ∷ 0 ∷ 0 ∷ 0x80 ∷ []

-- An absent number is its default.
pub absent_default_held : Holds five_by_default usual false bare_bytes (the_number (pos 5))
unfolding num slot_number named_slots first_failing fault_by header_fault
absent_default_held =
    record { header = refl; lies = (refl, (refl, refl, ((pos 5, refl, refl), tt))); deep = lit≤ tt; small = lit≤ tt }

-- The computing program finds no fault there.
pub absent_default_kept : computed_fault five_by_default usual false bare_bytes ≡ None
unfolding num slot_number named_slots named_elements first_failing fault_by all_within all limited_fault first_fault
    fault_from header_fault
absent_default_kept = refl

-- A default may be below 0.
pub absent_below_zero_held : Holds below_zero_by_default usual false bare_bytes (the_number (negsuc 2))
unfolding num slot_number named_slots first_failing fault_by header_fault
absent_below_zero_held =
    record { header = refl; lies = (refl, (refl, refl, ((negsuc 2, refl, refl), tt))); deep = lit≤ tt; small = lit≤ tt }

-- The computing program finds no fault there.
pub absent_below_zero_kept : computed_fault below_zero_by_default usual false bare_bytes ≡ None
unfolding num slot_number named_slots named_elements first_failing fault_by all_within all limited_fault first_fault
    fault_from header_fault
absent_below_zero_kept = refl

-- A stored 0 is 0, whatever the default is.
pub stored_zero_held : Holds five_by_default usual false stored_zero_bytes (the_number (pos 0))
unfolding num slot_number named_slots first_failing fault_by header_fault
stored_zero_held = record {
  header = refl;
  lies = (refl, (refl, refl, ((refl, refl), tt)));
  deep = lit≤ tt;
  small = lit≤ tt;
}

-- The computing program finds no fault there.
pub stored_zero_kept : computed_fault five_by_default usual false stored_zero_bytes ≡ None
unfolding num slot_number named_slots named_elements first_failing fault_by all_within all limited_fault first_fault
    fault_from header_fault
stored_zero_kept = refl

-- A stored number is read as two's complement: -2.
pub below_zero_held : Holds one_int usual false below_zero_bytes (the_number (negsuc 1))
unfolding num slot_number named_slots first_failing fault_by header_fault
below_zero_held = record {
  header = refl;
  lies = (refl, (refl, refl, ((refl, refl), tt)));
  deep = lit≤ tt;
  small = lit≤ tt;
}

-- The computing program finds no fault there.
pub below_zero_kept : computed_fault one_int usual false below_zero_bytes ≡ None
unfolding num slot_number named_slots named_elements first_failing fault_by all_within all limited_fault first_fault
    fault_from header_fault
below_zero_kept = refl

-- The least `byte`: -128.
pub least_byte_held : Holds one_byte usual false least_byte_bytes (the_number (negsuc 127))
unfolding num slot_number named_slots first_failing fault_by header_fault
least_byte_held = record {
  header = refl;
  lies = (refl, (refl, refl, ((refl, refl), tt)));
  deep = lit≤ tt;
  small = lit≤ tt;
}

-- The computing program finds no fault there.
pub least_byte_kept : computed_fault one_byte usual false least_byte_bytes ≡ None
unfolding num slot_number named_slots named_elements first_failing fault_by all_within all limited_fault first_fault
    fault_from header_fault
least_byte_kept = refl
