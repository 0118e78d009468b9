-- What a printer finds where a value is read.
use Rattle.std.specs.Prelude.{ℕ, ◌<◌, ◌≡◌, Option, None, Some}
use Rattle.fb_value.specs.Datum.{Datum, a_number, a_text, a_vector, a_struct, a_table, a_member, an_unknown, Parts}
use Rattle.fb_value.specs.Datum.{SlotEntries}
use Rattle.fb_text.specs.declared.shown.ValueHead.{ValueHead}
use Rattle.fb_text.specs.declared.shown.ValueHead.TheVariants.{Absent, Number, Text, Vector}
use Rattle.fb_text.specs.declared.shown.ValueHead.TheVariants.{Struct, Table, Member, Unknown}

-- what is found is the top of a datum
abbrev pub IsTop : ValueHead → Option Datum → Type 0
IsTop Absent o = o ≡ None
IsTop (Number n) o = o ≡ Some (a_number n)
IsTop (Text s) o = o ≡ Some (a_text s.now)
IsTop Vector o = (ds : Parts) × (o ≡ Some (a_vector ds))
IsTop Struct o = (ds : Parts) × (o ≡ Some (a_struct ds))
IsTop (Table t) o = (es : SlotEntries) × (o ≡ Some (a_table t.0 es))
IsTop (Member code) o = (d : Datum) × (o ≡ Some (a_member code d))
IsTop Unknown o = (code : ℕ) × (o ≡ Some (an_unknown code))

-- something that others stand in has a weight
abbrev pub HasWeight : ValueHead → ℕ → Type 0
HasWeight Vector w = 0 < w
HasWeight Struct w = 0 < w
HasWeight (Table t) w = 0 < w
HasWeight (Member code) w = 0 < w
HasWeight _ w = Unit {0}
