-- Values that fit their type and that don't, and values with a code that no member has.
use Rattle.std.specs.Prelude.{◌≡◌, true, false, refl}
use Rattle.std.proofs.Common.{lit≤, arith}
use Rattle.fb_value.specs.Counts.{is_whole}
use Rattle.fb_value.specs.Datum.{a_table, an_unknown, no_entries, absent_entry, present_entry}
use Rattle.fb_value.specs.Fits.{FitsRoot}
use Rattle.fb_value.specs.ExampleLayouts.{two_members, required_text, optional_int, deprecated_int}
use Rattle.fb_value.specs.ExampleUnions.{second_member, no_member, third_code}
use Rattle.fb_value.specs.ExampleMarks.{nothing, second_alone}
use Rattle.fb_value.specs.ExampleRequiredUnions.{required_union}

-- A member fits its union.
pub member_fits : FitsRoot two_members second_member
member_fits = (refl, ((refl, refl), (refl, (1, refl, (refl, tt)), tt)))

-- So does a code that no member has.
pub unknown_fits : FitsRoot two_members third_code
unknown_fits = (refl, ((refl, refl), (refl, (λ e. cc, lit≤ tt, refl), tt)))

-- The code of a member isn't such a code.
pub known_code_is_no_unknown : ¬
    (FitsRoot two_members (a_table 3 (absent_entry (present_entry (an_unknown 2) no_entries))))
known_code_is_no_unknown h = let none = h.1.1.1.2 in cc

-- A union may be absent.
pub no_member_fits : FitsRoot two_members no_member
no_member_fits = (refl, ((refl, refl), ((refl, refl), tt)))

-- A required one may not.
pub no_member_where_required : ¬ (FitsRoot required_union no_member)
no_member_where_required h = let required : true ≡ false = h.1.1.0.0 in cc

-- Nor may a required text.
pub no_text_where_required : ¬ (FitsRoot required_text nothing)
no_text_where_required h = let required : true ≡ false = h.1.0.0 in cc

-- An optional number may be absent.
pub absent_optional_fits : FitsRoot optional_int nothing
absent_optional_fits = (refl, ((refl, refl), tt))

-- A deprecated number always is.
pub deprecated_absent_fits : FitsRoot deprecated_int second_alone
deprecated_absent_fits = (refl, ((refl, refl), (refl, (omega arith, omega arith), tt)))

-- A value with a member is whole.
pub member_is_whole : is_whole second_member ≡ true
member_is_whole = refl

-- One with a code that no member has isn't.
pub unknown_is_not_whole : is_whole third_code ≡ false
unknown_is_not_whole = refl
