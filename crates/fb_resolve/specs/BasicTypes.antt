-- The names of basic types.
-- From the FlatBuffers documentation, "Writing a schema": Types.
use Rattle.std.specs.Prelude.{◌||◌, Bool, true, false, Option, None, Some, codes, if◌then◌else◌}
use Rattle.std.specs.Option.{is_some}
use Rattle.std.specs.Str.{bytes_eq}
use Rattle.fb_schema.specs.Schema.{Name}
use Rattle.fb_resolve.specs.declared.basic_types.BasicType.{BasicType}
use Rattle.fb_resolve.specs.declared.basic_types.BasicType.TheVariants.{Scalar, Text, Float}
use Rattle.fb_schema.specs.declared.kinds.Base.{Base}
use Rattle.fb_schema.specs.declared.kinds.Base.TheVariants.{Bool as Boolean, I8, U8, I16, U16, I32, U32, I64, U64}

abbrev pub either : Name → Name → Name → Bool
either a b name = bytes_eq name a || bytes_eq name b

unfoldable pub basic_type : Name → Option BasicType
basic_type name =
    if bytes_eq name (codes "string") then Some Text else
    if either (codes "int") (codes "int32") name then Some (Scalar I32) else
    if bytes_eq name (codes "bool") then Some (Scalar Boolean) else
    if either (codes "byte") (codes "int8") name then Some (Scalar I8) else
    if either (codes "ubyte") (codes "uint8") name then Some (Scalar U8) else
    if either (codes "short") (codes "int16") name then Some (Scalar I16) else
    if either (codes "ushort") (codes "uint16") name then Some (Scalar U16) else
    if either (codes "uint") (codes "uint32") name then Some (Scalar U32) else
    if either (codes "long") (codes "int64") name then Some (Scalar I64) else
    if either (codes "ulong") (codes "uint64") name then Some (Scalar U64) else
    if either (codes "float") (codes "float32") name || either (codes "double")
    (codes "float64") name then Some Float else None

abbrev pub base_of : Option BasicType → Option Base
base_of (Some (Scalar base)) = Some base
base_of _ = None

-- the integer type or `bool` that has this name
abbrev pub base_named : Name → Option Base
base_named name = base_of (basic_type name)

abbrev pub means_float : Option BasicType → Bool
means_float (Some Float) = true
means_float _ = false

-- the name is that of a floating-point type
abbrev pub is_float : Name → Bool
is_float name = means_float (basic_type name)

-- no declared type may have such a name
abbrev pub is_reserved : Name → Bool
is_reserved name = is_some (basic_type name)
