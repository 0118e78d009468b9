-- A type with what the names in it mean.
use Rattle.fb_resolve.specs.Outline.{TypeRead}
use Rattle.fb_resolve.specs.declared.resolved.ResolvedDecl.{ResolvedDecl}

pub record ResolvedType : Type 0 where
  pub read : TypeRead
  pub declaration : ResolvedDecl
