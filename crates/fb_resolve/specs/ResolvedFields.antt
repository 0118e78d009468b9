-- Fields, members and underlying types with what their types' names mean and their attributes say.
use Rattle.std.specs.Prelude.{Bool, List, Option, ℤ}
use Rattle.fb_syntax.specs.Located.{Located}
use Rattle.fb_syntax.specs.FieldRead.{FieldRead}
use Rattle.fb_syntax.specs.TypesRead.{TableRead, EnumRead, UnionRead}
use Rattle.fb_syntax.specs.declared.declarations.EnumValue.{EnumValue}
use Rattle.fb_syntax.specs.declared.declarations.UnionMember.{UnionMember}
use Rattle.fb_schema.specs.declared.kinds.Base.{Base}
use Rattle.fb_resolve.specs.declared.attributes.FieldAttributes.{FieldAttributes}
use Rattle.fb_resolve.specs.declared.defaults.Given.{Given}
use Rattle.fb_resolve.specs.declared.meanings.Meaning.{Meaning}

-- a field, what the name in its type means, what its attributes say, and what a table's field is given
pub record ResolvedField : Type 0 where
  pub field : FieldRead
  pub meaning : Meaning
  pub attributes : FieldAttributes
  pub given : Given

-- a table or struct with its fields, and the integer that its first `force_align` has
pub record ResolvedTable : Type 0 where
  pub declared : TableRead
  pub fields : List ResolvedField
  pub force_align : Option ℤ

-- a value of an enum, and the number that is written for it or follows from the one before
pub record ResolvedValue : Type 0 where
  pub value : EnumValue
  pub number : ℤ

-- what an enum is over, if that is an integer type, whether it has `bit_flags`, and its values
pub record EnumValues : Type 0 where
  pub base : Option Base
  pub bit_flags : Bool
  pub values : List ResolvedValue

-- an enum, what its underlying type's name means, whether it has `bit_flags`, and its values
pub record ResolvedEnum : Type 0 where
  pub declared : EnumRead
  pub underlying : Meaning
  pub bit_flags : Bool
  pub values : List ResolvedValue

-- a member of a union, its name, and what its table's name means
pub record ResolvedMember : Type 0 where
  pub name : Located
  pub member : UnionMember
  pub meaning : Meaning

-- a union with its members
pub record ResolvedUnion : Type 0 where
  pub declared : UnionRead
  pub members : List ResolvedMember
