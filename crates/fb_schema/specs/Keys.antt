-- The key of the digests of a schema's names.
use Rattle.std.specs.Prelude.{List, [], ◌∷◌}
use Rattle.std.specs.List.{fold}
use Rattle.fb_index.specs.declared.hash_key.HashKey.{HashKey}
use Rattle.fb_index.specs.declared.hash_key.KeyDigest.{KeyDigest}
use Rattle.fb_index.specs.HashKeys.{nothing_written, written, key_by}
use Rattle.fb_schema.specs.Schema.{Name, DeclaredType, DeclaredSchema}
use Rattle.fb_schema.specs.Indexed.{inner_names}

-- with one name more, and what no name has after it
abbrev pub with_name : KeyDigest → Name → KeyDigest
with_name digest name = written (written digest name) (255 ∷ [])

abbrev pub with_names : KeyDigest → List Name → KeyDigest
with_names digest names = fold with_name digest names

-- with a type's full name, and the names of its fields, values or members
abbrev pub with_type : KeyDigest → DeclaredType → KeyDigest
with_type digest type = with_names (with_name digest type.name) (inner_names type.body)

abbrev pub key_of_types : List DeclaredType → HashKey
key_of_types types = key_by (fold with_type nothing_written types)

-- the key of a schema: that of all its names
abbrev pub key_of_schema : DeclaredSchema → HashKey
key_of_schema S = key_of_types S.types
