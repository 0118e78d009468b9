-- Tables and structs, enums and unions as they are read.
use Rattle.std.specs.Prelude.{List}
use Rattle.fb_syntax.specs.Located.{Located}
use Rattle.fb_syntax.specs.FieldRead.{FieldRead}
use Rattle.fb_syntax.specs.Attributes.{AttributeRead}
use Rattle.fb_syntax.specs.declared.declarations.EnumValue.{EnumValue}
use Rattle.fb_syntax.specs.declared.declarations.UnionMember.{UnionMember}

pub record TableRead : Type 0 where
  pub name : Located
  pub attributes : List AttributeRead
  pub fields : List FieldRead

pub record EnumRead : Type 0 where
  pub name : Located
  pub underlying : Located
  pub attributes : List AttributeRead
  pub values : List EnumValue

pub record UnionRead : Type 0 where
  pub name : Located
  pub attributes : List AttributeRead
  pub members : List UnionMember
