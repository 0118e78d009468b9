-- What a type of one kind has inside; nothing where the type is of another kind.
-- From the FlatBuffers documentation, "Writing a schema": Tables, Structs, Enums, Unions.
use Rattle.std.specs.Prelude.{ℕ, List, Bool, ℤ, Option, None, Some}
use Rattle.fb_schema.specs.declared.kinds.Base.{Base}
use Rattle.fb_schema.specs.Schema.{Name, DeclaredField, DeclaredBody, table_body, struct_body, enum_body, union_body}

-- the slots of a table
abbrev pub as_table : DeclaredBody → Option (List DeclaredField)
as_table (table_body slots) = Some slots
as_table _ = None

-- the fields of a struct and its `force_align`
abbrev pub as_struct : DeclaredBody → Option (List DeclaredField × Option ℕ)
as_struct (struct_body parts align) = Some (parts, align)
as_struct _ = None

-- the underlying type of an enum, its `bit_flags` mark and its values
abbrev pub as_enum : DeclaredBody → Option (Base × Bool × List (Name × ℤ))
as_enum (enum_body base flags values) = Some (base, flags, values)
as_enum _ = None

-- the members of a union
abbrev pub as_union : DeclaredBody → Option (List (Name × ℕ))
as_union (union_body members) = Some members
as_union _ = None
