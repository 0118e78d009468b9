-- The schemas that the examples read under, each with its layout, and the limits.
use Rattle.std.specs.Prelude.{ℕ, List, [], ◌∷◌, map, true, false, pos, None, Some}
use Rattle.fb_schema.specs.declared.kinds.Base.TheVariants.{Bool as Boolean, U8, U16, I32, U64}
use Rattle.fb_schema.specs.declared.kinds.Kind.TheVariants.{Scalar, Struct, Table, Union, Code, Text}
use Rattle.fb_schema.specs.declared.kinds.Shape.{Shape}
use Rattle.fb_schema.specs.declared.kinds.Shape.TheVariants.{One, Many}
use Rattle.fb_schema.specs.Schema.{Name, DeclaredField, DeclaredBody, table_body, struct_body, union_body, DeclaredType}
use Rattle.fb_layout.specs.Laid.{LaidSchema, StructLayout, no_struct}
use Rattle.fb_value.specs.Bounds.{Bounds, usual_limits}

abbrev pub usual : Bounds
usual = usual_limits

abbrev pub letter : ℕ → Name
letter code = code ∷ []

-- a field without a mark
abbrev pub plain : Name → ℕ → Shape → DeclaredField
plain name slot shape =
    record {
      name = name;
      shape = shape;
      default = pos 0;
      optional = false;
      required = false;
      deprecated = false;
      slot = slot;
    }

-- `a` of type `int` in slot 0
abbrev pub a_int : DeclaredField
a_int = plain (letter 0x61) 0 (One (Scalar I32))

-- `b` of type `int` in slot 1
abbrev pub b_int : DeclaredField
b_int = plain (letter 0x62) 1 (One (Scalar I32))

-- a type whose name is one letter
abbrev pub type_called : ℕ → DeclaredBody → DeclaredType
type_called code body = record { name = letter code; body = body }

-- types with what each struct takes, the root's number, no identifier
abbrev pub laid : ℕ → List DeclaredType → List StructLayout → LaidSchema
laid root types structs =
    record { schema = record { types = types; root = root; identifier = None }; structs = structs }

-- types of which none is a struct
abbrev pub without_structs : ℕ → List DeclaredType → LaidSchema
without_structs root types = laid root types (map (λ t. no_struct) types)

-- one table `T`, the root
abbrev pub root_alone : List DeclaredField → LaidSchema
root_alone fields = without_structs 0 (type_called 0x54 (table_body fields) ∷ [])

-- table T { a:int; }
abbrev pub one_int : LaidSchema
one_int = root_alone (a_int ∷ [])

-- the same with file_identifier "TEST";
abbrev pub identified_int : LaidSchema
identified_int = record one_int
    { schema = record one_int.schema { identifier = Some (0x54 ∷ 0x45 ∷ 0x53 ∷ 0x54 ∷ []) } }

-- table T { a:int; b:int; }
abbrev pub two_ints : LaidSchema
two_ints = root_alone (a_int ∷ b_int ∷ [])

-- table T { b:bool; }
abbrev pub one_bool : LaidSchema
one_bool = root_alone (plain (letter 0x62) 0 (One (Scalar Boolean)) ∷ [])

-- table T { s:string; }
abbrev pub one_text : LaidSchema
one_text = root_alone (plain (letter 0x73) 0 (One Text) ∷ [])

-- table T { s:string (required); }
abbrev pub required_text : LaidSchema
required_text = root_alone (record (plain (letter 0x73) 0 (One Text)) { required = true } ∷ [])

-- table T { a:int (deprecated); b:int; }
abbrev pub deprecated_int : LaidSchema
deprecated_int = root_alone (record a_int { deprecated = true } ∷ b_int ∷ [])

-- table T { a:int = null; }
abbrev pub optional_int : LaidSchema
optional_int = root_alone (record a_int { optional = true } ∷ [])

-- table T { a:int = null; b:int; }
abbrev pub optional_and_int : LaidSchema
optional_and_int = root_alone (record a_int { optional = true } ∷ b_int ∷ [])

-- table T { a:int = null (deprecated); b:int; }
abbrev pub deprecated_optional : LaidSchema
deprecated_optional = root_alone (record a_int { optional = true; deprecated = true } ∷ b_int ∷ [])

-- table P { x:int; } table T { ps:[P]; } root_type T;
abbrev pub table_vector : LaidSchema
table_vector = without_structs 1 (
    type_called 0x50 (table_body (plain (letter 0x78) 0 (One (Scalar I32)) ∷ []))
    ∷ type_called 0x54 (table_body (plain (0x70 ∷ 0x73 ∷ []) 0 (Many (Table (record { 0 = 0 }))) ∷ []))
    ∷ [])

-- struct S { a:ubyte; b:ulong; c:ushort; } table T { s:S; } root_type T;
abbrev pub one_struct : LaidSchema
one_struct = laid 1
    (type_called 0x53 (struct_body
    (plain (letter 0x61) 0 (One (Scalar U8)) ∷ plain (letter 0x62) 1 (One (Scalar U64)) ∷ plain (letter 0x63) 2
    (One (Scalar U16)) ∷ []) None)
    ∷ type_called 0x54 (table_body (plain (letter 0x73) 0 (One (Struct (record { 0 = 0 }))) ∷ []))
    ∷ [])
    (record { size = 24; align = 8; offsets = 0 ∷ 8 ∷ 16 ∷ [] } ∷ no_struct ∷ [])

-- struct S (force_align: 16) { a:ubyte; } table T { s:string; v:[S]; n:int; } root_type T;
abbrev pub wide_structs : LaidSchema
wide_structs = laid 1
    (type_called 0x53 (struct_body (plain (letter 0x61) 0 (One (Scalar U8)) ∷ []) (Some 16))
    ∷ type_called 0x54 (table_body
    (plain (letter 0x73) 0 (One Text) ∷ plain (letter 0x76) 1 (Many (Struct (record { 0 = 0 })))
    ∷ plain (letter 0x6e) 2 (One (Scalar I32)) ∷ []))
    ∷ [])
    (record { size = 16; align = 16; offsets = 0 ∷ [] } ∷ no_struct ∷ [])

-- struct I { b:bool; } struct S { n:ushort; i:I; } table T { s:S; ss:[S]; bs:[bool]; } root_type T;
abbrev pub bools_everywhere : LaidSchema
bools_everywhere = laid 2
    (type_called 0x49 (struct_body (plain (letter 0x62) 0 (One (Scalar Boolean)) ∷ []) None)
    ∷ type_called 0x53 (struct_body
    (plain (letter 0x6e) 0 (One (Scalar U16)) ∷ plain (letter 0x69) 1 (One (Struct (record { 0 = 0 }))) ∷ []) None)
    ∷ type_called 0x54 (table_body (
    plain (letter 0x73) 0 (One (Struct (record { 0 = 1 })))
    ∷ plain (0x73 ∷ 0x73 ∷ []) 1 (Many (Struct (record { 0 = 1 })))
    ∷ plain (0x62 ∷ 0x73 ∷ []) 2 (Many (Scalar Boolean))
    ∷ []))
    ∷ [])
    (record { size = 1; align = 1; offsets = 0 ∷ [] } ∷ record { size = 4; align = 2; offsets = 0 ∷ 2 ∷ [] } ∷ no_struct
    ∷ [])

-- `u` of the union of a number, with its code: slots 0 and 1
abbrev pub u_union : ℕ → List DeclaredField
u_union u = plain (0x75 ∷ 0x5f ∷ 0x74 ∷ 0x79 ∷ 0x70 ∷ 0x65 ∷ []) 0 (One (Code (record { 0 = u }))) ∷ plain (letter 0x75)
    1 (One (Union (record { 0 = u }))) ∷ []

-- table A {} table B {} union U { A, B } table T { u:U; } root_type T;
abbrev pub two_members : LaidSchema
two_members = without_structs 3 (
    type_called 0x41 (table_body [])
    ∷ type_called 0x42 (table_body [])
    ∷ type_called 0x55 (union_body ((letter 0x41, 0) ∷ (letter 0x42, 1) ∷ []))
    ∷ type_called 0x54 (table_body (u_union 2))
    ∷ [])

-- table A {} table B {} table C { x:int; } union U { A, B, C } table T { u:U; } root_type T;
abbrev pub three_members : LaidSchema
three_members = without_structs 4 (
    type_called 0x41 (table_body [])
    ∷ type_called 0x42 (table_body [])
    ∷ type_called 0x43 (table_body (plain (letter 0x78) 0 (One (Scalar I32)) ∷ []))
    ∷ type_called 0x55 (union_body ((letter 0x41, 0) ∷ (letter 0x42, 1) ∷ (letter 0x43, 2) ∷ []))
    ∷ type_called 0x54 (table_body (u_union 3))
    ∷ [])

-- table N { n:N; } root_type N;
abbrev pub table_in_table : LaidSchema
table_in_table = without_structs 0
    (type_called 0x4e (table_body (plain (letter 0x6e) 0 (One (Table (record { 0 = 0 }))) ∷ [])) ∷ [])

-- table N { n:[N]; } root_type N;
abbrev pub tables_in_table : LaidSchema
tables_in_table = without_structs 0
    (type_called 0x4e (table_body (plain (letter 0x6e) 0 (Many (Table (record { 0 = 0 }))) ∷ [])) ∷ [])
