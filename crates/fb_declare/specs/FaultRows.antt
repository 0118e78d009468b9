-- Where each rule on declarations fails: of names, types, defaults, ids, structs, unions, the root and the identifier.
-- Those of enums are in EnumFaults.
-- From the FlatBuffers documentation, "Writing a schema".
use Rattle.std.specs.Prelude.{ℕ, ◌==◌, ◌++◌, ◌&&◌, ◌||◌, not, Bool, List, [], ◌∷◌, length, Option, None, Some}
use Rattle.std.specs.Prelude.{codes, if◌then◌else◌, nat_le}
use Rattle.std.specs.List.{list_any, list_all}
use Rattle.std.specs.Option.{is_none}
use Rattle.std.specs.Str.{bytes_eq}
use Rattle.fb_syntax.specs.Located.{Located}
use Rattle.fb_syntax.specs.declared.declarations.FieldType.{FieldType}
use Rattle.fb_syntax.specs.declared.declarations.FieldType.TheVariants.{One, Many}
use Rattle.fb_syntax.specs.declared.declarations.DefaultValue.{DefaultValue}
use Rattle.fb_syntax.specs.declared.declarations.DefaultValue.TheVariants.{Integer, Name as Named}
use Rattle.fb_schema.specs.Schema.{Name}
use Rattle.fb_resolve.specs.Outline.{RootRead}
use Rattle.fb_resolve.specs.RepeatedNames.{is_again}
use Rattle.fb_resolve.specs.Meaning.{type_name}
use Rattle.fb_resolve.specs.MembersRead.{table_of}
use Rattle.fb_resolve.specs.ResolvedFields.{ResolvedMember}
use Rattle.fb_schema.specs.declared.kinds.Kind.TheVariants.{Scalar, Enum, Struct, Union}
use Rattle.fb_resolve.specs.declared.meanings.Meaning.{Meaning}
use Rattle.fb_resolve.specs.declared.meanings.Meaning.TheVariants.{Known, Float, Unknown}
use Rattle.fb_resolve.specs.declared.defaults.Given.{Given}
use Rattle.fb_resolve.specs.declared.defaults.Given.TheVariants.{Wrong}
use Rattle.fb_declare.specs.declared.field_faults.FieldHost.{FieldHost}
use Rattle.fb_declare.specs.declared.field_faults.FieldHost.TheVariants as fields
use Rattle.fb_declare.specs.declared.faults.SchemaFault.{SchemaFault}
use Rattle.fb_declare.specs.declared.faults.SchemaFault.TheVariants.{DuplicateName, UnknownType, BadDefault}
use Rattle.fb_declare.specs.declared.faults.SchemaFault.TheVariants.{IncompleteStruct, Unsupported}
use Rattle.fb_declare.specs.declared.faults.SchemaFault.TheVariants.{BadMember, BadRoot, BadIdentifier}

abbrev pub when : Bool → SchemaFault → List SchemaFault
when fails fault = if fails then fault ∷ [] else []

-- the faults of a list's elements, by a rule that looks at an element and all before it; these stand before the list
abbrev pub faults_behind : {X : Type 0} → (List X → X → List SchemaFault) → List X → List X → List SchemaFault
faults_behind rule before [] = []
faults_behind rule before (x ∷ xs) = rule before x ++ faults_behind rule (before ++ x ∷ []) xs

-- the faults of a list by such a rule
abbrev pub faults_in_turn : {X : Type 0} → (List X → X → List SchemaFault) → List X → List SchemaFault
faults_in_turn rule xs = faults_behind rule [] xs

-- a name that is one of some names
abbrev pub is_among : Name → List Name → Bool
is_among name names = list_any (bytes_eq name) names

-- a name, at this offset, that is among those before it
abbrev pub name_again : ℕ → List Name → Name → List SchemaFault
name_again at before name = when (is_among name before) (DuplicateName at)

-- a type isn't found, or is a float type's
abbrev pub use_faults : Meaning → ℕ → List SchemaFault
use_faults Unknown at = UnknownType at ∷ []
use_faults Float at = Unsupported at ∷ []
use_faults (Known kind) at = []

-- A table has no vector of unions. A struct has no vector, text, table or union, and of structs only those before it.
abbrev pub misplaced_type : FieldHost → FieldType → Meaning → List SchemaFault
misplaced_type fields.Table (Many at n) (Known (Union u)) = Unsupported n.at ∷ []
misplaced_type fields.Table _ _ = []
misplaced_type (fields.Struct struct) (Many at n) m = BadMember at ∷ []
misplaced_type (fields.Struct struct) (One n) (Known (Scalar base)) = []
misplaced_type (fields.Struct struct) (One n) (Known (Enum e)) = []
misplaced_type (fields.Struct struct) (One n) (Known (Struct t)) = when (nat_le struct t.0) (IncompleteStruct n.at)
misplaced_type (fields.Struct struct) (One n) (Known _) = BadMember n.at ∷ []
misplaced_type (fields.Struct struct) (One n) _ = []

-- the type of a field
abbrev pub field_type : FieldHost → FieldType → Meaning → List SchemaFault
field_type host kind m = use_faults m (type_name kind).at ++ misplaced_type host kind m

abbrev pub default_at : DefaultValue → ℕ
default_at (Integer t) = t.at
default_at (Named t) = t.at

-- a default that gives nothing
abbrev pub bad_default : Option DefaultValue → Given → List SchemaFault
bad_default (Some d) Wrong = BadDefault (default_at d) ∷ []
bad_default _ _ = []

-- a member that is called NONE or like one before it, isn't a table, or is past the 255th
abbrev pub member_faults : List ResolvedMember → ResolvedMember → List SchemaFault
member_faults before r = let at = r.member.table.at in
    when (bytes_eq r.name.bytes (codes "NONE") || is_again bytes_eq (λ m. m.name.bytes) before r)
    (DuplicateName r.name.at)
    ++ use_faults r.meaning at
    ++ when (is_none (table_of r.meaning) || nat_le 255 (length before)) (BadMember at)

-- a root that is missing, or isn't a table
abbrev pub root_faults : ℕ → Option RootRead → Meaning → List SchemaFault
root_faults text_len None m = BadRoot text_len ∷ []
root_faults text_len (Some r) m = use_faults m r.name.at ++ when (is_none (table_of m)) (BadRoot r.name.at)

abbrev pub is_printable : ℕ → Bool
is_printable c = nat_le 32 c && nat_le c 126

-- four printable bytes
abbrev pub is_identifier : Name → Bool
is_identifier name = length name == 4 && list_all is_printable name

abbrev pub identifier_faults : Option Located → List SchemaFault
identifier_faults None = []
identifier_faults (Some t) = when (not (is_identifier t.bytes)) (BadIdentifier t.at)
