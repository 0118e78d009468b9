-- Where each attribute may stand and with which value, and which are at fault.
-- From the FlatBuffers documentation, "Writing a schema": Attributes.
use Rattle.std.specs.Prelude.{◌||◌, not, Bool, true, false, List, [], ◌∷◌, Option, None, Some, if◌then◌else◌}
use Rattle.std.specs.Str.{bytes_eq}
use Rattle.fb_syntax.specs.Attributes.{AttributeRead, built_in_attribute}
use Rattle.fb_syntax.specs.declared.declarations.AttributeValue.{AttributeValue}
use Rattle.fb_syntax.specs.declared.declarations.AttributeValue.TheVariants.{Integer}
use Rattle.fb_schema.specs.Schema.{Name}
use Rattle.fb_resolve.specs.Attributes.{is_alignment, is_left_out}
use Rattle.fb_declare.specs.FaultRows.{when, faults_in_turn}
use Rattle.fb_resolve.specs.RepeatedNames.{is_again}
use Rattle.fb_declare.specs.declared.faults.SchemaFault.{SchemaFault}
use Rattle.fb_declare.specs.declared.faults.SchemaFault.TheVariants.{BadAttribute, UnknownAttribute, Unsupported}
use Rattle.fb_syntax.specs.declared.attributes.BuiltInAttribute.{BuiltInAttribute}
use Rattle.fb_syntax.specs.declared.attributes.BuiltInAttribute.TheVariants.{Id, Required, Deprecated, ForceAlign}
use Rattle.fb_syntax.specs.declared.attributes.BuiltInAttribute.TheVariants.{BitFlags, OriginalOrder}
use Rattle.fb_declare.specs.declared.attribute_faults.AttributeHost.{AttributeHost}
use Rattle.fb_declare.specs.declared.attribute_faults.AttributeHost.TheVariants.{Table, Struct, Enum, ScalarField}
use Rattle.fb_declare.specs.declared.attribute_faults.AttributeHost.TheVariants.{TableField, StructField}

-- `force_align` of a field, too, is left out
abbrev pub is_force_align_of_field : AttributeHost → Option BuiltInAttribute → Bool
is_force_align_of_field ScalarField (Some ForceAlign) = true
is_force_align_of_field TableField (Some ForceAlign) = true
is_force_align_of_field StructField (Some ForceAlign) = true
is_force_align_of_field _ _ = false

-- where each built-in attribute may stand, and with which value
abbrev pub may_stand : AttributeHost → BuiltInAttribute → Option AttributeValue → Bool
may_stand ScalarField Id (Some (Integer n)) = true
may_stand TableField Id (Some (Integer n)) = true
may_stand TableField Required None = true
may_stand ScalarField Deprecated None = true
may_stand TableField Deprecated None = true
may_stand (Struct natural) ForceAlign (Some (Integer n)) = is_alignment natural n.value
may_stand Enum BitFlags None = true
may_stand Table OriginalOrder None = true
may_stand (Struct natural) OriginalOrder None = true
may_stand _ _ _ = false

-- where this says which names are declared: a built-in attribute on a wrong host, with a wrong value, or again; or
-- another that isn't declared
abbrev pub faults_by_name : (Name → Bool) → AttributeHost → Bool → AttributeRead → Option BuiltInAttribute
    → List SchemaFault
faults_by_name declared host again a (Some k) = when (not (may_stand host k a.value) || again) (BadAttribute a.name.at)
faults_by_name declared host again a None = when (not (declared a.name.bytes)) (UnknownAttribute a.name.at)

-- the faults of one attribute, where this says whether one before it has its name
abbrev pub attribute_faults : (Name → Bool) → AttributeHost → Bool → AttributeRead → List SchemaFault
attribute_faults declared host again a = let built_in = built_in_attribute a.name.bytes in
    if is_left_out a.name.bytes || is_force_align_of_field host built_in then Unsupported a.name.at ∷ [] else
    faults_by_name declared host again a built_in

-- the faults of one attribute after others
abbrev pub attribute_behind : (Name → Bool) → AttributeHost → List AttributeRead → AttributeRead → List SchemaFault
attribute_behind declared host before a =
    attribute_faults declared host (is_again bytes_eq (λ b. b.name.bytes) before a) a

-- the faults of attributes
abbrev pub metadata_faults : (Name → Bool) → AttributeHost → List AttributeRead → List SchemaFault
metadata_faults declared host attributes = faults_in_turn (attribute_behind declared host) attributes
