-- A schema with its indexes, as it is held.
use Rattle.std.specs.Prelude.{◌≡◌}
use Rattle.fb_schema.specs.declared.schema.Schema.TheInside.{Inside}
use Rattle.fb_schema.specs.Schema.{DeclaredSchema}
use Rattle.fb_schema.specs.Seen.{schema_of}
use Rattle.fb_schema.specs.WellDeclared.{IsDeclared}
use Rattle.fb_schema.specs.Indexed.{IndexesNumbers, IndexesTypes}
use Rattle.fb_schema.specs.Keys.{key_of_schema}

abbrev pub schema_seen : Inside → DeclaredSchema
schema_seen s = schema_of s.types.items s.root s.identifier

-- It is well declared, and has its key, the indexes of its names and numbers.
pub record IsIndexed (s : Inside) : Type 0 where
  pub declared : IsDeclared (schema_seen s)
  pub keyed : s.names.key ≡ key_of_schema (schema_seen s)
  pub names : IndexesTypes s.names (schema_seen s).types
  pub numbers : IndexesNumbers s.numbers (schema_seen s).types
