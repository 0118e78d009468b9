-- Which schema a text declares, and where it is at fault.
-- From the FlatBuffers documentation, "Writing a schema".
use Rattle.std.specs.Prelude.{ℕ, ◌≡◌, false, List, [], Some, map, slice_get}
use Rattle.std.specs.List.{AllZip, Contains}
use Rattle.std.specs.Option.{option_map}
use Rattle.fb_syntax.specs.DeclsRead.{DeclsRead}
use Rattle.fb_schema.specs.Schema.{DeclaredBody, table_body, struct_body, enum_body, union_body, DeclaredType}
use Rattle.fb_schema.specs.Schema.{DeclaredSchema}
use Rattle.fb_resolve.specs.Outline.{Outline, outline_of, name_of_type}
use Rattle.fb_resolve.specs.Resolved.{resolved_types, meaning_of_root}
use Rattle.fb_resolve.specs.ResolvedType.{ResolvedType}
use Rattle.fb_resolve.specs.declared.resolved.ResolvedDecl.{ResolvedDecl}
use Rattle.fb_resolve.specs.declared.resolved.ResolvedDecl.TheVariants as resolved
use Rattle.fb_resolve.specs.EnumValues.{integer_type, base_or_ubyte, values_over}
use Rattle.fb_resolve.specs.Ids.{slots_read, AreInPlace, are_ids_wrong}
use Rattle.fb_resolve.specs.StructsRead.{parts_from, forced_align}
use Rattle.fb_resolve.specs.MembersRead.{member_read, table_of}
use Rattle.fb_declare.specs.TypeFaults.{faults_of}
use Rattle.fb_declare.specs.declared.faults.SchemaFault.{SchemaFault}

-- what a declaration gives
abbrev pub HasBody : ResolvedDecl → DeclaredBody → Type 0
HasBody (resolved.Table t) (table_body slots) = AreInPlace (slots_read t.fields) slots
HasBody (resolved.Struct s) (struct_body parts force) = (parts ≡ parts_from 0 s.fields)
    × (force ≡ forced_align 0 s.force_align)
HasBody (resolved.Enum e) (enum_body base flags values) = let under = integer_type e.underlying in
    (base ≡ base_or_ubyte under) × (flags ≡ e.bit_flags) × (values ≡ values_over under e.bit_flags e.values)
HasBody (resolved.Union u) (union_body members) = members ≡ map member_read u.members
HasBody _ _ = ⊥

pub record IsType (r : ResolvedType) (t : DeclaredType) : Type 0 where
  pub name : t.name ≡ name_of_type r.read
  pub body : HasBody r.declaration t.body

-- what gives a body: a table whose ids are right, or another type
abbrev pub IsBuildable : ResolvedDecl → Type 0
IsBuildable (resolved.Table t) = are_ids_wrong t.fields ≡ false
IsBuildable _ = Unit {0}

abbrev pub AreBuildable : List ResolvedType → Type 0
AreBuildable types = (t : ℕ) (r : ResolvedType) → slice_get types t ≡ Some r → IsBuildable r.declaration

pub record Gives (o : Outline) (S : DeclaredSchema) : Type 0 where
  pub types : AllZip IsType (resolved_types o.types) S.types
  pub root : Some S.root ≡ table_of (meaning_of_root o.types o.root)
  pub identifier : S.identifier ≡ option_map (λ t. t.bytes) o.identifier

-- No rule fails anywhere, and the schema has what the declarations give.
pub record Declares (d : DeclsRead) (S : DeclaredSchema) : Type 0 where
  pub sound : faults_of d ≡ []
  pub given : Gives (outline_of d) S

-- a rule fails at the offset that the fault tells
abbrev pub Stands : DeclsRead → SchemaFault → Type 0
Stands d fault = Contains (faults_of d) fault
