-- What the default of a field gives.
-- From the FlatBuffers documentation, "Writing a schema": Tables, Enums; "Optional scalars".
use Rattle.std.specs.Prelude.{List, Option, None, Some, ℤ, pos, codes, if◌then◌else◌}
use Rattle.std.specs.Str.{bytes_eq}
use Rattle.fb_syntax.specs.declared.declarations.FieldType.{FieldType}
use Rattle.fb_syntax.specs.declared.declarations.FieldType.TheVariants.{One, Many}
use Rattle.fb_syntax.specs.declared.declarations.DefaultValue.{DefaultValue}
use Rattle.fb_syntax.specs.declared.declarations.DefaultValue.TheVariants.{Integer, Name as Named}
use Rattle.fb_schema.specs.Schema.{Name}
use Rattle.fb_resolve.specs.Outline.{TypeRead}
use Rattle.fb_schema.specs.Ranges.{holds}
use Rattle.fb_resolve.specs.EnumValues.{underlying_at, value_at}
use Rattle.fb_schema.specs.declared.kinds.Base.{Base}
use Rattle.fb_schema.specs.declared.kinds.Base.TheVariants.{Bool as Boolean}
use Rattle.fb_schema.specs.declared.kinds.Kind.TheVariants.{Scalar, Enum}
use Rattle.fb_resolve.specs.declared.meanings.Meaning.{Meaning}
use Rattle.fb_resolve.specs.declared.meanings.Meaning.TheVariants.{Known, Float, Unknown}
use Rattle.fb_resolve.specs.declared.defaults.Given.{Given}
use Rattle.fb_resolve.specs.declared.defaults.Given.TheVariants.{Number, Null, Wrong}

abbrev pub number_within : Base → ℤ → Given
number_within base n = if holds base n then Number n else Wrong

-- `null` makes a scalar optional
abbrev pub null_or_wrong : Name → Given
null_or_wrong name = if bytes_eq name (codes "null") then Null else Wrong

abbrev pub scalar_named : Base → Name → Given
scalar_named Boolean name =
    if bytes_eq name (codes "true") then Number (pos 1) else
    if bytes_eq name (codes "false") then Number (pos 0) else
    null_or_wrong name
scalar_named _ name = null_or_wrong name

-- Where an enum's underlying type is at fault its numbers are let pass.
abbrev pub enum_number : Option Base → ℤ → Given
enum_number None n = Number n
enum_number (Some base) n = number_within base n

-- A value called `null` comes before the word that makes a field optional.
abbrev pub enum_named : Option ℤ → Name → Given
enum_named (Some n) name = Number n
enum_named None name = null_or_wrong name

-- what a default gives to one value; where the type is at fault, nothing is said of the default
unfoldable pub given_to : List TypeRead → Meaning → DefaultValue → Given
given_to types (Known (Scalar base)) (Integer t) = number_within base t.value
given_to types (Known (Scalar base)) (Named t) = scalar_named base t.bytes
given_to types (Known (Enum e)) (Integer t) = enum_number (underlying_at types e.0) t.value
given_to types (Known (Enum e)) (Named t) = enum_named (value_at types e.0 t.bytes) t.bytes
given_to types (Known _) _ = Wrong
given_to types Float _ = Number (pos 0)
given_to types Unknown _ = Number (pos 0)

-- What a table's field is given: 0 where no default is written. A vector has none.
abbrev pub given_by : List TypeRead → FieldType → Meaning → Option DefaultValue → Given
given_by types kind m None = Number (pos 0)
given_by types (One n) m (Some d) = given_to types m d
given_by types (Many at n) m (Some d) = Wrong
