-- What the name of a type means where it is used.
-- From the FlatBuffers documentation, "Writing a schema": Types, Namespaces.
use Rattle.std.specs.Prelude.{ℕ, List, [], map, Option, None, Some, slice_get}
use Rattle.fb_syntax.specs.Located.{Located}
use Rattle.fb_syntax.specs.declared.declarations.FieldType.{FieldType}
use Rattle.fb_syntax.specs.declared.declarations.FieldType.TheVariants.{One, Many}
use Rattle.fb_syntax.specs.declared.declarations.TypeDecl.{TypeDecl}
use Rattle.fb_syntax.specs.declared.declarations.TypeDecl.TheVariants as decls
use Rattle.fb_schema.specs.Schema.{Name}
use Rattle.fb_resolve.specs.Outline.{TypeRead, name_of_type}
use Rattle.fb_resolve.specs.Words.{Path, words}
use Rattle.fb_resolve.specs.InnermostTypes.{innermost_type}
use Rattle.fb_resolve.specs.BasicTypes.{basic_type}
use Rattle.fb_resolve.specs.declared.basic_types.BasicType.{BasicType}
use Rattle.fb_resolve.specs.declared.basic_types.BasicType.TheVariants as basic
use Rattle.fb_schema.specs.declared.kinds.Kind.TheVariants.{Scalar, Enum, Struct, Table, Union, Text}
use Rattle.fb_resolve.specs.declared.meanings.Meaning.{Meaning}
use Rattle.fb_resolve.specs.declared.meanings.Meaning.TheVariants.{Known, Float, Unknown}

-- the words of a namespace; the one without a name has none
abbrev pub words_of_scope : Option Name → Path
words_of_scope None = []
words_of_scope (Some scope) = words scope

-- the full names of types, word by word
abbrev pub paths_of_types : List TypeRead → List Path
paths_of_types types = map (λ r. words (name_of_type r)) types

-- the number of the type that a name means: the first of its full name in the innermost namespace that has one
abbrev pub type_of_name : List TypeRead → Option Name → Name → Option ℕ
type_of_name types scope name = innermost_type (paths_of_types types) (words_of_scope scope) (words name)

-- a use of the type of a number
abbrev pub use_of : ℕ → TypeDecl → Meaning
use_of t (decls.Table d) = Known (Table (record { 0 = t }))
use_of t (decls.Struct d) = Known (Struct (record { 0 = t }))
use_of t (decls.Enum d) = Known (Enum (record { 0 = t }))
use_of t (decls.Union d) = Known (Union (record { 0 = t }))

abbrev pub use_of_read : ℕ → Option TypeRead → Meaning
use_of_read t None = Unknown
use_of_read t (Some r) = use_of t r.declaration

abbrev pub use_of_type : List TypeRead → Option ℕ → Meaning
use_of_type types None = Unknown
use_of_type types (Some t) = use_of_read t (slice_get types t)

-- a basic type, where the name is that of one
abbrev pub basic_or : Option BasicType → Meaning → Meaning
basic_or (Some (basic.Scalar base)) m = Known (Scalar base)
basic_or (Some basic.Text) m = Known Text
basic_or (Some basic.Float) m = Float
basic_or None m = m

-- A basic type's name is always that; any other names a type of an enclosing namespace.
unfoldable pub meaning_of : List TypeRead → Option Name → Name → Meaning
meaning_of types scope name = basic_or (basic_type name) (use_of_type types (type_of_name types scope name))

abbrev pub type_name : FieldType → Located
type_name (One n) = n
type_name (Many at n) = n
