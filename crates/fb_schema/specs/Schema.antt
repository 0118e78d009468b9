-- A schema as contracts see it: its types by number, each with its full name.
-- From the FlatBuffers documentation, "Writing a schema": Tables, Structs, Enums, Unions, Attributes.
use Rattle.std.specs.Prelude.{ℕ, List, [], Bool, true, false, ℤ, Option, None, Some, slice_get}
use Rattle.fb_schema.specs.declared.kinds.Base.{Base}
use Rattle.fb_schema.specs.declared.kinds.Base.TheVariants.{U8}
use Rattle.fb_schema.specs.declared.kinds.Shape.{Shape}

-- the bytes of a name
abbrev pub Name : Type 0
Name = List ℕ

-- a field as it is declared: an `optional` one is written `= null`
pub record DeclaredField : Type 0 where
  pub name : Name
  pub shape : Shape
  pub default : ℤ
  pub optional : Bool
  pub required : Bool
  pub deprecated : Bool
  pub slot : ℕ

pub data DeclaredBody : Type 0 where
  -- the slots in order
  table_body : List DeclaredField → DeclaredBody
  -- the fields in order, and `force_align`
  struct_body : List DeclaredField → Option ℕ → DeclaredBody
  -- the underlying type, the `bit_flags` mark, the values
  enum_body : Base → Bool → List (Name × ℤ) → DeclaredBody
  -- the members' names and tables, by code from 1 on
  union_body : List (Name × ℕ) → DeclaredBody

pub record DeclaredType : Type 0 where
  pub name : Name
  pub body : DeclaredBody

pub record DeclaredSchema : Type 0 where
  pub types : List DeclaredType
  pub root : ℕ
  pub identifier : Option (List ℕ)

-- what the type of a number is, if there is one
abbrev pub body_in : Option DeclaredType → DeclaredBody
body_in None = table_body []
body_in (Some t) = t.body

abbrev pub body_at : DeclaredSchema → ℕ → DeclaredBody
body_at S t = body_in (slice_get S.types t)

-- the slots of a table
abbrev pub slots_in : DeclaredBody → List DeclaredField
slots_in (table_body fs) = fs
slots_in _ = []

-- the fields of a struct
abbrev pub parts_in : DeclaredBody → List DeclaredField
parts_in (struct_body fs align) = fs
parts_in _ = []

-- what a struct's `force_align` says
abbrev pub force_align_in : DeclaredBody → Option ℕ
force_align_in (struct_body fs align) = align
force_align_in _ = None

-- the underlying type of an enum
abbrev pub base_in : DeclaredBody → Base
base_in (enum_body base flags values) = base
base_in _ = U8

-- the values of an enum
abbrev pub values_in : DeclaredBody → List (Name × ℤ)
values_in (enum_body base flags values) = values
values_in _ = []

-- the members of a union
abbrev pub members_in : DeclaredBody → List (Name × ℕ)
members_in (union_body members) = members
members_in _ = []

abbrev pub is_table : DeclaredBody → Bool
is_table (table_body fs) = true
is_table _ = false

abbrev pub is_struct : DeclaredBody → Bool
is_struct (struct_body fs align) = true
is_struct _ = false

abbrev pub is_enum : DeclaredBody → Bool
is_enum (enum_body base flags values) = true
is_enum _ = false

abbrev pub is_union : DeclaredBody → Bool
is_union (union_body members) = true
is_union _ = false
