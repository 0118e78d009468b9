-- The numbers of an enum's values, and what the name of a value means.
-- From the FlatBuffers documentation, "Writing a schema": Enums, Attributes (`bit_flags`).
use Rattle.std.specs.Prelude.{ℕ, ◌≡◌, ◌==◌, ◌*◌, ◌^◌, ◌&&◌, Bool, true, false, List, [], ◌∷◌, length, drop, map}
use Rattle.std.specs.Prelude.{Option, None, Some, ℤ, pos, negsuc, ◌+ℤ◌, slice_get, if◌then◌else◌, nat_lt}
use Rattle.std.specs.List.{find, starts_with}
use Rattle.std.specs.Option.{option_map, option_map_or, option_or, option_and_then, unwrap_or}
use Rattle.std.specs.Bool.{nat_eq}
use Rattle.std.specs.Str.{bytes_eq}
use Rattle.std.specs.Borrow.{Bor}
use Rattle.indexmap.specs.IndexMap.{IndexMap, get_by}
use Rattle.fb_index.specs.declared.hash_key.HashKey.{HashKey}
use Rattle.fb_syntax.specs.Signs.{dot}
use Rattle.fb_syntax.specs.TypesRead.{EnumRead}
use Rattle.fb_syntax.specs.declared.declarations.EnumValue.{EnumValue}
use Rattle.fb_syntax.specs.declared.declarations.TypeDecl.{TypeDecl}
use Rattle.fb_syntax.specs.declared.declarations.TypeDecl.TheVariants as decls
use Rattle.fb_schema.specs.Schema.{Name}
use Rattle.fb_schema.specs.Alignments.{base_size}
use Rattle.fb_resolve.specs.Outline.{TypeRead, full_name}
use Rattle.fb_schema.specs.Ranges.{holds}
use Rattle.fb_resolve.specs.Meaning.{meaning_of}
use Rattle.fb_resolve.specs.Attributes.{has_attribute}
use Rattle.fb_resolve.specs.ResolvedFields.{ResolvedValue, EnumValues}
use Rattle.fb_schema.specs.declared.kinds.Base.{Base}
use Rattle.fb_schema.specs.declared.kinds.Base.TheVariants.{Bool as Boolean, U8}
use Rattle.fb_schema.specs.declared.kinds.Kind.TheVariants.{Scalar}
use Rattle.fb_resolve.specs.declared.meanings.Meaning.{Meaning}
use Rattle.fb_resolve.specs.declared.meanings.Meaning.TheVariants.{Known}
use Rattle.fb_syntax.specs.declared.attributes.BuiltInAttribute.TheVariants.{BitFlags}

-- an integer type, which a `bool` isn't
abbrev pub integer_type : Meaning → Option Base
integer_type (Known (Scalar Boolean)) = None
integer_type (Known (Scalar base)) = Some base
integer_type _ = None

-- the underlying type of an enum, if it is an integer type
abbrev pub underlying : List TypeRead → Option Name → EnumRead → Option Base
underlying types scope e = integer_type (meaning_of types scope e.underlying.bytes)

abbrev pub has_flags : EnumRead → Bool
has_flags e = has_attribute BitFlags e.attributes

-- the number that is written for a value, or else the next one
abbrev pub written_number : ℤ → EnumValue → ℤ
written_number next v = option_map_or (λ n. n.value) v.number next

-- the values with their numbers, where this is the next one
unfoldable pub values_from : ℤ → List EnumValue → List ResolvedValue
values_from next [] = []
values_from next (v ∷ vs) = let n = written_number next v in
    record { value = v; number = n } ∷ values_from (n +ℤ pos 1) vs

-- The first value is 0 where no number is written, a later one the one before plus one.
abbrev pub resolved_values : List EnumValue → List ResolvedValue
resolved_values vs = values_from (pos 0) vs

-- what an enum is over, and its values; no type and none where a type is no enum
abbrev pub enum_values : List TypeRead → Option Name → TypeDecl → EnumValues
enum_values types scope (decls.Enum e) = record {
  base = underlying types scope e;
  bit_flags = has_flags e;
  values = resolved_values e.values;
}
enum_values types scope _ = record { base = None; bit_flags = false; values = [] }

abbrev pub enum_values_of : List TypeRead → TypeRead → EnumValues
enum_values_of types r = enum_values types r.scope r.declaration

-- the underlying type of the enum of a number
abbrev pub underlying_at : List TypeRead → ℕ → Option Base
underlying_at types t = option_and_then (λ r. (enum_values_of types r).base) (slice_get types t)

abbrev pub name_of_value : ResolvedValue → Name
name_of_value v = v.value.name.bytes

-- with `bit_flags` a written number is that of a bit
abbrev pub is_bit_of : Base → ℤ → Bool
is_bit_of base (pos n) = nat_lt n (8 * base_size base)
is_bit_of base (negsuc n) = false

abbrev pub power_of : ℤ → ℤ
power_of (pos n) = pos (2 ^ n)
power_of (negsuc n) = negsuc n

-- the number that a value has where this one is written
abbrev pub value_number : Base → Bool → ℤ → ℤ
value_number base flags n = if flags && is_bit_of base n then power_of n else n

-- whether a number may be written in an enum over this type
abbrev pub may_be_written : Base → Bool → ℤ → Bool
may_be_written base true n = is_bit_of base n
may_be_written base false n = holds base n

-- an enum whose underlying type is at fault has the numbers of an `ubyte`
abbrev pub base_or_ubyte : Option Base → Base
base_or_ubyte b = unwrap_or b U8

-- the name and number that a value has in an enum over a type
abbrev pub value_over : Base → Bool → ResolvedValue → Name × ℤ
value_over base flags v = (name_of_value v, value_number base flags v.number)

-- those of the values of an enum
abbrev pub values_over : Option Base → Bool → List ResolvedValue → List (Name × ℤ)
values_over base flags values = map (value_over (base_or_ubyte base) flags) values

abbrev pub values_read : List TypeRead → Option Name → EnumRead → List (Name × ℤ)
values_read types scope e = values_over (underlying types scope e) (has_flags e) (resolved_values e.values)

-- the number of the first value of a name
unfoldable pub number_named : List (Name × ℤ) → Name → Option ℤ
number_named values name = option_map (λ v. v.1) (find (λ v. bytes_eq name v.0) values)

-- the number that a map has for a name
abbrev pub number_of : IndexMap (Bor Name) ℤ HashKey → Name → Option ℤ
number_of numbers name = get_by (λ k. bytes_eq name k.now) numbers

-- a map has the number of the first value of each name, and no other
abbrev pub IndexesValues : IndexMap (Bor Name) ℤ HashKey → List (Name × ℤ) → Type 0
IndexesValues numbers values = (name : Name) → number_of numbers name ≡ number_named values name

abbrev pub behind_dot : Name → Option Name
behind_dot [] = None
behind_dot (c ∷ cs) = if c == dot then Some cs else None

-- what stands after a name and a dot
unfoldable pub behind : Name → Name → Option Name
behind prefix name = if starts_with nat_eq name prefix then behind_dot (drop (length prefix) name) else None

-- what the name of a value means: alone, or after the enum's declared or full name and a dot
abbrev pub value_named : Option Name → EnumRead → List (Name × ℤ) → Name → Option ℤ
value_named scope e values name = option_or (number_named values name)
    (option_or (option_and_then (number_named values) (behind e.name.bytes name))
    (option_and_then (number_named values) (behind (full_name scope e.name.bytes) name)))

abbrev pub value_in : List TypeRead → Option Name → TypeDecl → Name → Option ℤ
value_in types scope (decls.Enum e) name = value_named scope e (values_read types scope e) name
value_in types scope _ name = None

abbrev pub value_of_read : List TypeRead → Option TypeRead → Name → Option ℤ
value_of_read types None name = None
value_of_read types (Some r) name = value_in types r.scope r.declaration name

-- the number of the value that a name means in the enum of a number
unfoldable pub value_at : List TypeRead → ℕ → Name → Option ℤ
value_at types t name = value_of_read types (slice_get types t) name
