-- The faults of an enum: its values have different names and numbers, and the numbers are within its underlying type.
-- From the FlatBuffers documentation, "Writing a schema": Enums, Attributes (`bit_flags`).
use Rattle.std.specs.Prelude.{◌++◌, ◌||◌, not, Bool, false, ℕ, List, [], ◌∷◌, Option, None, Some, ℤ, if◌then◌else◌}
use Rattle.std.specs.Option.{is_none}
use Rattle.std.specs.Ordering.{int_eq}
use Rattle.std.specs.Str.{bytes_eq}
use Rattle.fb_schema.specs.Schema.{Name}
use Rattle.fb_schema.specs.WellDeclared.{is_unsigned}
use Rattle.fb_schema.specs.declared.kinds.Base.{Base}
use Rattle.fb_resolve.specs.EnumValues.{may_be_written, integer_type, name_of_value}
use Rattle.fb_resolve.specs.RepeatedNames.{is_again}
use Rattle.fb_resolve.specs.ResolvedFields.{ResolvedEnum, ResolvedValue}
use Rattle.fb_resolve.specs.declared.meanings.Meaning.{Meaning}
use Rattle.fb_resolve.specs.declared.meanings.Meaning.TheVariants.{Unknown}
use Rattle.fb_declare.specs.AttributeFaults.{metadata_faults}
use Rattle.fb_declare.specs.FaultRows.{when, faults_in_turn}
use Rattle.fb_declare.specs.declared.attribute_faults.AttributeHost.{AttributeHost}
use Rattle.fb_declare.specs.declared.attribute_faults.AttributeHost.TheVariants as hosts
use Rattle.fb_declare.specs.declared.faults.SchemaFault.{SchemaFault}
use Rattle.fb_declare.specs.declared.faults.SchemaFault.TheVariants.{DuplicateName, UnknownType}
use Rattle.fb_declare.specs.declared.faults.SchemaFault.TheVariants.{Unsupported, BadEnumValue}

-- the type under an enum
abbrev pub underlying_faults : Meaning → ℕ → List SchemaFault
underlying_faults Unknown at = UnknownType at ∷ []
underlying_faults m at = when (is_none (integer_type m)) (Unsupported at)

abbrev pub is_out_of_range : Option Base → Bool → ℤ → Bool
is_out_of_range None flags n = false
is_out_of_range (Some base) flags n = not (may_be_written base flags n)

-- a value that has the name of one before it; and one whose number is out of range, or that of one before it
abbrev pub value_faults : Option Base → Bool → List ResolvedValue → ResolvedValue → List SchemaFault
value_faults base flags before v =
    when (is_again bytes_eq name_of_value before v) (DuplicateName v.value.name.at)
    ++ when (is_out_of_range base flags v.number || is_again int_eq (λ w. w.number) before v)
    (BadEnumValue v.value.name.at)

-- Flags need an unsigned type. Where the type is at fault `bit_flags` is ignored.
abbrev pub host_of_enum : Option Base → AttributeHost
host_of_enum None = hosts.Enum
host_of_enum (Some base) = if is_unsigned base then hosts.Enum else hosts.SignedEnum

abbrev pub enum_faults : (Name → Bool) → ResolvedEnum → List SchemaFault
enum_faults declared e = let base = integer_type e.underlying in
    underlying_faults e.underlying e.declared.underlying.at
    ++ metadata_faults declared (host_of_enum base) e.declared.attributes
    ++ faults_in_turn (value_faults base e.bit_flags) e.values
