-- The faults of a table, struct, enum or union, and of all that a text declares.
-- From the FlatBuffers documentation, "Writing a schema".
use Rattle.std.specs.Prelude.{ℕ, ◌++◌, ◌==◌, ◌||◌, Bool, List, [], ◌∷◌, length}
use Rattle.std.specs.List.{flat_map, fold}
use Rattle.std.specs.Str.{bytes_eq}
use Rattle.fb_syntax.specs.DeclsRead.{DeclsRead}
use Rattle.fb_schema.specs.Schema.{Name}
use Rattle.fb_schema.specs.WellDeclared.{names_of}
use Rattle.fb_resolve.specs.Outline.{TypeRead, Outline, outline_of, name_of_type, word_of}
use Rattle.fb_resolve.specs.ResolvedFields.{ResolvedField, ResolvedTable, ResolvedUnion}
use Rattle.fb_resolve.specs.ResolvedType.{ResolvedType}
use Rattle.fb_resolve.specs.Resolved.{resolved_types, meaning_of_root}
use Rattle.fb_resolve.specs.declared.resolved.ResolvedDecl.{ResolvedDecl}
use Rattle.fb_resolve.specs.declared.resolved.ResolvedDecl.TheVariants as resolved
use Rattle.fb_declare.specs.AttributeFaults.{metadata_faults}
use Rattle.fb_resolve.specs.SlotsRead.{slots_of_field}
use Rattle.fb_resolve.specs.Ids.{are_ids_wrong}
use Rattle.fb_resolve.specs.StructsRead.{natural_align, align_of_type}
use Rattle.fb_declare.specs.FaultRows.{when, faults_behind, faults_in_turn, is_among, name_again, field_type}
use Rattle.fb_declare.specs.FaultRows.{bad_default, member_faults, root_faults}
use Rattle.fb_declare.specs.EnumFaults.{enum_faults}
use Rattle.fb_declare.specs.FaultRows.{identifier_faults}
use Rattle.fb_resolve.specs.RepeatedNames.{is_again}
use Rattle.fb_schema.specs.declared.kinds.Kind.TheVariants.{Scalar, Enum}
use Rattle.fb_syntax.specs.declared.declarations.FieldType.{FieldType}
use Rattle.fb_syntax.specs.declared.declarations.FieldType.TheVariants.{One}
use Rattle.fb_resolve.specs.BasicTypes.{is_reserved}
use Rattle.fb_resolve.specs.declared.defaults.Given.{Given}
use Rattle.fb_resolve.specs.declared.defaults.Given.TheVariants.{Wrong}
use Rattle.fb_resolve.specs.declared.meanings.Meaning.{Meaning}
use Rattle.fb_resolve.specs.declared.meanings.Meaning.TheVariants.{Known}
use Rattle.fb_declare.specs.declared.field_faults.FieldHost.{FieldHost}
use Rattle.fb_declare.specs.declared.field_faults.FieldHost.TheVariants as fields
use Rattle.fb_declare.specs.declared.attribute_faults.AttributeHost.{AttributeHost}
use Rattle.fb_declare.specs.declared.attribute_faults.AttributeHost.TheVariants as hosts
use Rattle.fb_declare.specs.declared.faults.SchemaFault.{SchemaFault}
use Rattle.fb_declare.specs.declared.faults.SchemaFault.TheVariants.{DuplicateName, BadIds, EmptyStruct}

-- the names that a field takes: in a table those of its slots, of which a union has two
abbrev pub names_of_field : FieldHost → ResolvedField → List Name
names_of_field fields.Table r = names_of (slots_of_field r 0)
names_of_field (fields.Struct struct) r = r.field.name.bytes ∷ []

-- A scalar or enum can't be required. Where the type is at fault `required` is ignored.
abbrev pub attribute_host : FieldHost → FieldType → Meaning → AttributeHost
attribute_host (fields.Struct struct) kind m = hosts.StructField
attribute_host fields.Table (One n) (Known (Scalar base)) = hosts.ScalarField
attribute_host fields.Table (One n) (Known (Enum e)) = hosts.ScalarField
attribute_host fields.Table _ _ = hosts.TableField

-- a struct's field takes no default
abbrev pub given_in : FieldHost → Given → Given
given_in fields.Table given = given
given_in (fields.Struct struct) given = Wrong

abbrev pub field_faults : (Name → Bool) → FieldHost → ResolvedField → List SchemaFault
field_faults declared host r =
    field_type host r.field.kind r.meaning
    ++ bad_default r.field.default (given_in host r.given)
    ++ metadata_faults declared (attribute_host host r.field.kind r.meaning) r.field.attributes

-- where a field has a name that it or one before it has already, and its other faults
abbrev pub field_behind : (Name → Bool) → FieldHost → List ResolvedField → ResolvedField → List SchemaFault
field_behind declared host before r =
    faults_behind (name_again r.field.name.at) (flat_map (names_of_field host) before) (names_of_field host r)
    ++ field_faults declared host r

abbrev pub table_faults : (Name → Bool) → ResolvedTable → List SchemaFault
table_faults declared t =
    metadata_faults declared hosts.Table t.declared.attributes
    ++ when (are_ids_wrong t.fields) (BadIds t.declared.name.at)
    ++ faults_in_turn (field_behind declared fields.Table) t.fields

-- the faults of a struct, where these are the alignments of the types before it
abbrev pub struct_faults : List TypeRead → (Name → Bool) → List ℕ → ResolvedTable → List SchemaFault
struct_faults types declared lower s =
    metadata_faults declared (hosts.Struct (natural_align types lower s.fields)) s.declared.attributes
    ++ when (length s.fields == 0) (EmptyStruct s.declared.name.at)
    ++ faults_in_turn (field_behind declared (fields.Struct (length lower))) s.fields

abbrev pub union_faults : (Name → Bool) → ResolvedUnion → List SchemaFault
union_faults declared u =
    metadata_faults declared hosts.Union u.declared.attributes
    ++ faults_in_turn member_faults u.members

abbrev pub declaration_faults : List TypeRead → (Name → Bool) → List ℕ → ResolvedDecl → List SchemaFault
declaration_faults types declared lower (resolved.Table t) = table_faults declared t
declaration_faults types declared lower (resolved.Struct s) = struct_faults types declared lower s
declaration_faults types declared lower (resolved.Enum e) = enum_faults declared e
declaration_faults types declared lower (resolved.Union u) = union_faults declared u

-- the faults of a type after types of these alignments, where this says whether one of them has its full name;
-- the name may not be that of a basic or float type
abbrev pub type_faults : List TypeRead → (Name → Bool) → List ℕ → Bool → ResolvedType → List SchemaFault
type_faults types declared lower again r = let name = word_of r.read.declaration in
    when (again || is_reserved name.bytes) (DuplicateName name.at)
    ++ declaration_faults types declared lower r.declaration

-- the alignments of some types, after those of the types before them
abbrev pub aligns_from : List TypeRead → List ℕ → List ResolvedType → List ℕ
aligns_from types lower rs = fold (λ lower r. lower ++ align_of_type types lower r ∷ []) lower rs

-- the faults of a type after others
abbrev pub type_behind : List TypeRead → (Name → Bool) → List ResolvedType → ResolvedType → List SchemaFault
type_behind types declared before r =
    type_faults types declared (aligns_from types [] before) (is_again bytes_eq (λ q. name_of_type q.read) before r) r

-- whether a text declares an attribute of this name
abbrev pub declared_in : Outline → Name → Bool
declared_in o name = is_among name o.attributes

-- all that is wrong with what a text declares
unfoldable pub faults_of_outline : Outline → List SchemaFault
faults_of_outline o =
    faults_in_turn (type_behind o.types (declared_in o)) (resolved_types o.types)
    ++ root_faults o.text_len o.root (meaning_of_root o.types o.root)
    ++ identifier_faults o.identifier

abbrev pub faults_of : DeclsRead → List SchemaFault
faults_of d = faults_of_outline (outline_of d)
