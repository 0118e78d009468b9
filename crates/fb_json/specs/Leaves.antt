-- What a tree without members and elements gives.
use Rattle.std.specs.Prelude.{ℕ, zero, suc, ◌+◌, ℤ, pos, negsuc, nat_lt, is_some, length, Bool, true, false, Option}
use Rattle.std.specs.Prelude.{None, Some, Result, Ok, Err, if◌then◌else◌}
use Rattle.serde_json.specs.Data.{Data, null, boolean, number, string}
use Rattle.serde_json.specs.Find.{as_integer}
use Rattle.fb_schema.specs.declared.kinds.Base.{Base}
use Rattle.fb_schema.specs.declared.kinds.Base.TheVariants.{Bool as Boolean}
use Rattle.fb_schema.specs.declared.kinds.Kind.TheVariants.{Scalar, Enum, Text}
use Rattle.fb_schema.specs.declared.kinds.Shape.{Shape}
use Rattle.fb_schema.specs.declared.kinds.Shape.TheVariants.{One}
use Rattle.fb_schema.specs.Ranges.{holds}
use Rattle.fb_schema.specs.Schema.{DeclaredSchema, body_at, base_in}
use Rattle.fb_schema.specs.Found.{member_coded}
use Rattle.fb_schema.specs.Paths.{code_by_path}
use Rattle.fb_value.specs.Datum.{Datum, a_number, a_text}
use Rattle.fb_json.specs.declared.faults.Place.{Place}
use Rattle.fb_json.specs.declared.faults.JsonFault.{JsonFault}
use Rattle.fb_json.specs.declared.faults.JsonFault.TheVariants.{WrongShape, NotWhole, OutOfRange, UnknownName}
use Rattle.fb_json.specs.Outcome.{◌>>=◌, Counted, or_fault, spent}
use Rattle.fb_json.specs.Flags.{number_told}

abbrev pub in_range : Base → Place → Option ℤ → Result ℤ JsonFault
in_range base at None = Err (NotWhole at)
in_range base at (Some n) = if holds base n then Ok n else Err (OutOfRange at)

abbrev pub boolean_in : Base → Bool → Place → Result ℤ JsonFault
boolean_in Boolean true at = Ok (pos 1)
boolean_in Boolean false at = Ok (pos 0)
boolean_in _ b at = Err (WrongShape at)

unfoldable pub scalar_meant : Base → Data → Place → Result ℤ JsonFault
scalar_meant base (number x) at = in_range base at (as_integer x)
scalar_meant base (boolean b) at = boolean_in base b at
scalar_meant base _ at = Err (WrongShape at)

unfoldable pub enum_meant : DeclaredSchema → ℕ → Data → Place → Result ℤ JsonFault
enum_meant S e (number x) at = in_range (base_in (body_at S e)) at (as_integer x)
enum_meant S e (string s) at = or_fault (number_told S e s) (UnknownName at)
enum_meant S e _ at = Err (WrongShape at)

unfoldable pub text_meant : Data → Place → ℕ → Counted Datum
text_meant (string s) at left = spent (1 + length s) at left >>= λ l. Ok (a_text s, l)
text_meant _ at left = Err (WrongShape at)

unfoldable pub leaf_meant : DeclaredSchema → Data → Shape → Place → ℕ → Counted Datum
leaf_meant S d (One (Scalar base)) at left = scalar_meant base d at >>= λ n. Ok (a_number n, left)
leaf_meant S d (One (Enum e)) at left = enum_meant S e.0 d at >>= λ n. Ok (a_number n, left)
leaf_meant S d (One Text) at left = text_meant d at left
leaf_meant S d _ at left = Err (WrongShape at)

-- a union's code by its number: 0 is no member
abbrev pub code_numbered : DeclaredSchema → ℕ → Place → Option ℤ → Result ℕ JsonFault
code_numbered S u at None = Err (WrongShape at)
code_numbered S u at (Some (negsuc n)) = Err (OutOfRange at)
code_numbered S u at (Some (pos zero)) = Ok 0
code_numbered S u at (Some (pos (suc c))) =
    if nat_lt 255 (suc c) then Err (OutOfRange at)
    else (if is_some (member_coded (body_at S u) (suc c)) then Ok (suc c) else Err (UnknownName at))

-- the code that a member called `x_type` tells
unfoldable pub code_told : DeclaredSchema → ℕ → Data → Place → Result ℕ JsonFault
code_told S u null at = Ok 0
code_told S u (number x) at = code_numbered S u at (as_integer x)
code_told S u (string s) at = or_fault (code_by_path S u s) (UnknownName at)
code_told S u _ at = Err (WrongShape at)
