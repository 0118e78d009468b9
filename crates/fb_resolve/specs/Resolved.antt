-- The types of a text with what the names and attributes in them mean.
-- From the FlatBuffers documentation, "Writing a schema": Types, Namespaces, Attributes.
use Rattle.std.specs.Prelude.{List, map, Option, None, Some}
use Rattle.fb_syntax.specs.FieldRead.{FieldRead}
use Rattle.fb_syntax.specs.TypesRead.{TableRead, EnumRead}
use Rattle.fb_syntax.specs.declared.declarations.UnionMember.{UnionMember}
use Rattle.fb_syntax.specs.declared.declarations.TypeDecl.{TypeDecl}
use Rattle.fb_syntax.specs.declared.declarations.TypeDecl.TheVariants as decls
use Rattle.fb_schema.specs.Schema.{Name}
use Rattle.fb_resolve.specs.Outline.{TypeRead, RootRead}
use Rattle.fb_resolve.specs.Meaning.{type_name, meaning_of}
use Rattle.fb_resolve.specs.Attributes.{number_called, field_attributes}
use Rattle.fb_resolve.specs.EnumValues.{has_flags, resolved_values}
use Rattle.fb_resolve.specs.Defaults.{given_by}
use Rattle.fb_resolve.specs.MembersRead.{member_name}
use Rattle.fb_resolve.specs.ResolvedFields.{ResolvedField, ResolvedTable, ResolvedEnum, ResolvedMember}
use Rattle.fb_resolve.specs.ResolvedType.{ResolvedType}
use Rattle.fb_syntax.specs.declared.attributes.BuiltInAttribute.TheVariants.{ForceAlign}
use Rattle.fb_resolve.specs.declared.meanings.Meaning.{Meaning}
use Rattle.fb_resolve.specs.declared.meanings.Meaning.TheVariants.{Unknown}
use Rattle.fb_resolve.specs.declared.resolved.ResolvedDecl.{ResolvedDecl}
use Rattle.fb_resolve.specs.declared.resolved.ResolvedDecl.TheVariants.{Table, Struct, Enum, Union}

abbrev pub resolved_field : List TypeRead → Option Name → FieldRead → ResolvedField
resolved_field types scope f = let meant = meaning_of types scope (type_name f.kind).bytes in record {
  field = f;
  meaning = meant;
  attributes = field_attributes f.attributes;
  given = given_by types f.kind meant f.default;
}

abbrev pub resolved_fields : List TypeRead → Option Name → List FieldRead → List ResolvedField
resolved_fields types scope fs = map (resolved_field types scope) fs

abbrev pub resolved_table : List TypeRead → Option Name → TableRead → ResolvedTable
resolved_table types scope t = record {
  declared = t;
  fields = resolved_fields types scope t.fields;
  force_align = number_called ForceAlign t.attributes;
}

abbrev pub resolved_enum : List TypeRead → Option Name → EnumRead → ResolvedEnum
resolved_enum types scope e = record {
  declared = e;
  underlying = meaning_of types scope e.underlying.bytes;
  bit_flags = has_flags e;
  values = resolved_values e.values;
}

abbrev pub resolved_member : List TypeRead → Option Name → UnionMember → ResolvedMember
resolved_member types scope m = record {
  name = member_name m;
  member = m;
  meaning = meaning_of types scope m.table.bytes;
}

-- a declaration whose names mean what they do inside a namespace
abbrev pub resolved_declaration : List TypeRead → Option Name → TypeDecl → ResolvedDecl
resolved_declaration types scope (decls.Table t) = Table (resolved_table types scope t)
resolved_declaration types scope (decls.Struct s) = Struct (resolved_table types scope s)
resolved_declaration types scope (decls.Enum e) = Enum (resolved_enum types scope e)
resolved_declaration types scope (decls.Union u) =
    Union (record { declared = u; members = map (resolved_member types scope) u.members })

abbrev pub resolved_type : List TypeRead → TypeRead → ResolvedType
resolved_type types r = record { read = r; declaration = resolved_declaration types r.scope r.declaration }

-- all types of a text
abbrev pub resolved_types : List TypeRead → List ResolvedType
resolved_types types = map (resolved_type types) types

-- what the root's name means; nothing that is known where there is no root
abbrev pub meaning_of_root : List TypeRead → Option RootRead → Meaning
meaning_of_root types None = Unknown
meaning_of_root types (Some r) = meaning_of types r.scope r.name.bytes
