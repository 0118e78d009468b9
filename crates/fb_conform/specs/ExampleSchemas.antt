-- Schemas of one line, for the worked examples.
use Rattle.std.specs.Prelude.{ℕ, ◌+◌, List, [], ◌∷◌, ◌++◌, true, false, ℤ, pos, None}
use Rattle.fb_schema.specs.declared.kinds.TypeId.{TypeId}
use Rattle.fb_schema.specs.declared.kinds.Base.TheVariants.{U8, I32}
use Rattle.fb_schema.specs.declared.kinds.Kind.TheVariants.{Scalar, Enum, Struct, Table, Union, Code, Text}
use Rattle.fb_schema.specs.declared.kinds.Shape.{Shape}
use Rattle.fb_schema.specs.declared.kinds.Shape.TheVariants.{One, Many}
use Rattle.fb_schema.specs.Schema.{Name, DeclaredField, DeclaredBody, table_body, struct_body, enum_body, union_body}
use Rattle.fb_schema.specs.Schema.{DeclaredType}
use Rattle.fb_layout.specs.Laid.{LaidSchema, StructLayout, no_struct}

abbrev pub id : ℕ → TypeId
id t = record { 0 = t }

-- a field without marks, with the default 0
abbrev pub field : ℕ → Shape → DeclaredField
field k s = record {
  name = 0x61 ∷ [];
  shape = s;
  default = pos 0;
  optional = false;
  required = false;
  deprecated = false;
  slot = k;
}

abbrev pub with_default : ℤ → DeclaredField → DeclaredField
with_default n f = record {
  name = f.name;
  shape = f.shape;
  default = n;
  optional = f.optional;
  required = f.required;
  deprecated = f.deprecated;
  slot = f.slot;
}

abbrev pub optional_one : DeclaredField → DeclaredField
optional_one f = record {
  name = f.name;
  shape = f.shape;
  default = f.default;
  optional = true;
  required = f.required;
  deprecated = f.deprecated;
  slot = f.slot;
}

abbrev pub required_one : DeclaredField → DeclaredField
required_one f = record {
  name = f.name;
  shape = f.shape;
  default = f.default;
  optional = f.optional;
  required = true;
  deprecated = f.deprecated;
  slot = f.slot;
}

abbrev pub deprecated_one : DeclaredField → DeclaredField
deprecated_one f = record {
  name = f.name;
  shape = f.shape;
  default = f.default;
  optional = f.optional;
  required = f.required;
  deprecated = true;
  slot = f.slot;
}

abbrev pub int_field : ℕ → DeclaredField
int_field k = field k (One (Scalar I32))

abbrev pub text_field : ℕ → DeclaredField
text_field k = field k (One Text)

abbrev pub called : ℕ → DeclaredBody → DeclaredType
called n b = record { name = n ∷ []; body = b }

-- a schema without structs and without an identifier
abbrev pub of_types : ℕ → List DeclaredType → LaidSchema
of_types root ts = record { schema = record { types = ts; root = root; identifier = None }; structs = [] }

-- one table T, the root
abbrev pub one_table : List DeclaredField → LaidSchema
one_table fs = of_types 0 (called 0x54 (table_body fs) ∷ [])

-- table T { a:int; }
abbrev pub s1 : LaidSchema
s1 = one_table (int_field 0 ∷ [])

-- table T { a:int; b:int; }
abbrev pub s2 : LaidSchema
s2 = one_table (int_field 0 ∷ int_field 1 ∷ [])

-- table A {} in front of the T of s2
abbrev pub s2_later : LaidSchema
s2_later = of_types 1 (called 0x41 (table_body []) ∷ called 0x54 (table_body (int_field 0 ∷ int_field 1 ∷ [])) ∷ [])

-- table A {} .. union U { A, .. } table T { u:U; }
abbrev pub with_union : ℕ → List DeclaredType → List (Name × ℕ) → LaidSchema
with_union u ts members =
    of_types (u + 1) (ts ++ called 0x55 (union_body members) ∷ called 0x54
    (table_body (field 0 (One (Code (id u))) ∷ field 1 (One (Union (id u))) ∷ [])) ∷ [])

-- union U { A, B }
abbrev pub u_ab : LaidSchema
u_ab = with_union 2 (called 0x41 (table_body []) ∷ called 0x42 (table_body []) ∷ [])
    ((0x41 ∷ [], 0) ∷ (0x42 ∷ [], 1) ∷ [])

-- union U { B, A }
abbrev pub u_ba : LaidSchema
u_ba = with_union 2 (called 0x41 (table_body []) ∷ called 0x42 (table_body []) ∷ [])
    ((0x42 ∷ [], 1) ∷ (0x41 ∷ [], 0) ∷ [])

-- table C { x:int; } and union U { A, B, C }
abbrev pub u_abc : LaidSchema
u_abc =
    with_union 3 (called 0x41 (table_body []) ∷ called 0x42 (table_body []) ∷ called 0x43
    (table_body (int_field 0 ∷ [])) ∷ [])
    ((0x41 ∷ [], 0) ∷ (0x42 ∷ [], 1) ∷ (0x43 ∷ [], 2) ∷ [])

-- enum E:ubyte of some values, and table T { e:E; }
abbrev pub with_enum : List (Name × ℤ) → LaidSchema
with_enum values = of_types 1
    (called 0x45 (enum_body U8 false values) ∷ called 0x54 (table_body (field 0 (One (Enum (id 0))) ∷ [])) ∷ [])

-- struct S of some fields of one byte, and table T { s:S; }
abbrev pub with_struct : List DeclaredField → StructLayout → LaidSchema
with_struct fs laid = record {
  schema = record {
    types = called 0x53 (struct_body fs None) ∷ called 0x54
        (table_body (field 0 (One (Struct (id 0))) ∷ [])) ∷ [];
    root = 1;
    identifier = None;
  };
  structs = laid ∷ no_struct ∷ [];
}

abbrev pub byte_field : ℕ → DeclaredField
byte_field k = field k (One (Scalar U8))

-- table A { x:int; } and table T { a:A; as:[A]; }
abbrev pub nested : List DeclaredField → LaidSchema
nested fs = of_types 1
    (called 0x41 (table_body fs) ∷ called 0x54
    (table_body (field 0 (One (Table (id 0))) ∷ field 1 (Many (Table (id 0))) ∷ [])) ∷ [])

-- the same, A declared after T
abbrev pub nested_behind : List DeclaredField → LaidSchema
nested_behind fs = of_types 0
    (called 0x54 (table_body (field 0 (One (Table (id 1))) ∷ field 1 (Many (Table (id 1))) ∷ [])) ∷ called 0x41
    (table_body fs) ∷ [])
