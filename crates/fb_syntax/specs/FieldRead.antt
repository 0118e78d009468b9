-- A field as it is read.
use Rattle.std.specs.Prelude.{List, Option}
use Rattle.fb_syntax.specs.Located.{Located}
use Rattle.fb_syntax.specs.Attributes.{AttributeRead}
use Rattle.fb_syntax.specs.declared.declarations.FieldType.{FieldType}
use Rattle.fb_syntax.specs.declared.declarations.DefaultValue.{DefaultValue}

pub record FieldRead : Type 0 where
  pub name : Located
  pub kind : FieldType
  pub default : Option DefaultValue
  pub attributes : List AttributeRead
