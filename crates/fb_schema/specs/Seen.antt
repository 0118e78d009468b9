-- What the data types of a schema are, whatever memory they lie in.
use Rattle.std.specs.Prelude.{ℕ, List, Option, map, string_bytes}
use Rattle.fb_schema.specs.declared.kinds.TypeId.{TypeId}
use Rattle.fb_schema.specs.declared.types.FieldInfo.{FieldInfo}
use Rattle.fb_schema.specs.declared.types.Body.{Body}
use Rattle.fb_schema.specs.declared.types.Body.TheVariants as the_body
use Rattle.fb_schema.specs.declared.types.TypeInfo.{TypeInfo}
use Rattle.fb_schema.specs.Schema.{DeclaredField, DeclaredBody, table_body, struct_body, enum_body, union_body}
use Rattle.fb_schema.specs.Schema.{DeclaredType, DeclaredSchema}

abbrev pub field_seen : FieldInfo → DeclaredField
field_seen f = record {
  name = string_bytes f.name;
  shape = f.shape;
  default = f.default;
  optional = f.optional;
  required = f.required;
  deprecated = f.deprecated;
  slot = f.slot;
}

abbrev pub body_seen : Body → DeclaredBody
body_seen (the_body.Table fields) = table_body (map field_seen fields.items)
body_seen (the_body.Struct fields align) = struct_body (map field_seen fields.items) align
body_seen (the_body.Enum base flags values) = enum_body base flags (map (λ x. (string_bytes x.0, x.1)) values.items)
body_seen (the_body.Union members) = union_body (map (λ x. (string_bytes x.0, x.1.0)) members.items)

abbrev pub type_seen : TypeInfo → DeclaredType
type_seen t = record { name = string_bytes t.name; body = body_seen t.body }

-- the schema of some types by number, its root and the identifier of its files
abbrev pub schema_of : List TypeInfo → TypeId → Option (List ℕ) → DeclaredSchema
schema_of types root identifier = record { types = map type_seen types; root = root.0; identifier = identifier }
