-- What a schema text declares, as it is read.
use Rattle.std.specs.Prelude.{ℕ, List}
use Rattle.fb_syntax.specs.declared.declarations.Declaration.{Declaration}

pub record DeclsRead : Type 0 where
  pub declarations : List Declaration
  pub text_len : ℕ
