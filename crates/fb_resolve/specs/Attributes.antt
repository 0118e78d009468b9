-- What attributes say.
-- From the FlatBuffers documentation, "Writing a schema": Attributes.
use Rattle.std.specs.Prelude.{ℕ, ◌==◌, ◌&&◌, ◌||◌, codes, Bool, false, List, [], ◌∷◌, Option, None, Some, ℤ, pos, negsuc, nat_le}
use Rattle.std.specs.List.{list_any, find, starts_with}
use Rattle.std.specs.Bool.{nat_eq}
use Rattle.std.specs.Str.{bytes_eq}
use Rattle.std.specs.Option.{option_and_then, is_some}
use Rattle.fb_schema.specs.Schema.{Name}
use Rattle.fb_syntax.specs.Attributes.{AttributeRead, built_in_attribute, is_same}
use Rattle.fb_syntax.specs.declared.declarations.AttributeValue.{AttributeValue}
use Rattle.fb_syntax.specs.declared.declarations.AttributeValue.TheVariants.{Integer}
use Rattle.fb_resolve.specs.declared.attributes.FieldAttributes.{FieldAttributes}
use Rattle.fb_syntax.specs.declared.attributes.BuiltInAttribute.{BuiltInAttribute}
use Rattle.fb_syntax.specs.declared.attributes.BuiltInAttribute.TheVariants.{Id, Required, Deprecated}

-- the attributes of FlatBuffers that aren't supported
abbrev pub is_left_out : Name → Bool
is_left_out name =
    (bytes_eq name (codes "key") || bytes_eq name (codes "hash") || bytes_eq name (codes "shared")
    || bytes_eq name (codes "nested_flatbuffer") || bytes_eq name (codes "flexbuffer"))
    || starts_with nat_eq name (codes "native_")

-- a power of two from the least alignment to 256
abbrev pub is_alignment : ℕ → ℤ → Bool
is_alignment least (pos n) =
    list_any (λ a. a == n) (1 ∷ 2 ∷ 4 ∷ 8 ∷ 16 ∷ 32 ∷ 64 ∷ 128 ∷ 256 ∷ []) && nat_le least n
is_alignment least (negsuc n) = false

-- the first attribute that is this built-in one
abbrev pub attribute_called : BuiltInAttribute → List AttributeRead → Option AttributeRead
attribute_called k attributes = find (λ a. is_same k (built_in_attribute a.name.bytes)) attributes

abbrev pub has_attribute : BuiltInAttribute → List AttributeRead → Bool
has_attribute k attributes = is_some (attribute_called k attributes)

abbrev pub integer_value_in : Option AttributeValue → Option ℤ
integer_value_in (Some (Integer n)) = Some n.value
integer_value_in _ = None

-- the integer that the first such attribute has
unfoldable pub number_called : BuiltInAttribute → List AttributeRead → Option ℤ
number_called k attributes = option_and_then (λ a. integer_value_in a.value) (attribute_called k attributes)

-- a number from 0 on
abbrev pub natural_in : ℤ → Option ℕ
natural_in (pos n) = Some n
natural_in (negsuc n) = None

-- what the attributes of a field say of its slots; an `id` is a number from 0 on
abbrev pub field_attributes : List AttributeRead → FieldAttributes
field_attributes attributes = record {
  id = option_and_then natural_in (number_called Id attributes);
  has_id = has_attribute Id attributes;
  required = has_attribute Required attributes;
  deprecated = has_attribute Deprecated attributes;
}
