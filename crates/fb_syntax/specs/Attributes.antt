-- Attributes as they are read, and those that need no declaration.
-- From the FlatBuffers documentation, "Writing a schema": Attributes.
use Rattle.std.specs.Prelude.{ℕ, Bool, true, false, List, Option, None, Some, codes, if◌then◌else◌}
use Rattle.std.specs.Str.{bytes_eq}
use Rattle.fb_syntax.specs.Located.{Located}
use Rattle.fb_syntax.specs.declared.declarations.AttributeValue.{AttributeValue}
use Rattle.fb_syntax.specs.declared.attributes.BuiltInAttribute.{BuiltInAttribute}
use Rattle.fb_syntax.specs.declared.attributes.BuiltInAttribute.TheVariants.{Id, Required, Deprecated, ForceAlign}
use Rattle.fb_syntax.specs.declared.attributes.BuiltInAttribute.TheVariants.{BitFlags, OriginalOrder}

pub record AttributeRead : Type 0 where
  pub name : Located
  pub value : Option AttributeValue

-- the attribute of a name that needs no declaration
unfoldable pub built_in_attribute : List ℕ → Option BuiltInAttribute
built_in_attribute name =
    if bytes_eq name (codes "id") then Some Id else
    if bytes_eq name (codes "required") then Some Required else
    if bytes_eq name (codes "deprecated") then Some Deprecated else
    if bytes_eq name (codes "force_align") then Some ForceAlign else
    if bytes_eq name (codes "bit_flags") then Some BitFlags else
    if bytes_eq name (codes "original_order") then Some OriginalOrder else None

abbrev pub is_same : BuiltInAttribute → Option BuiltInAttribute → Bool
is_same Id (Some Id) = true
is_same Required (Some Required) = true
is_same Deprecated (Some Deprecated) = true
is_same ForceAlign (Some ForceAlign) = true
is_same BitFlags (Some BitFlags) = true
is_same OriginalOrder (Some OriginalOrder) = true
is_same _ _ = false
