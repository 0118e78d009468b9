-- What a schema text declares, each type with the namespace that it stands in.
-- From the FlatBuffers documentation, "Writing a schema": Namespaces, Attributes, Root type, File identification.
use Rattle.std.specs.Prelude.{ℕ, ◌++◌, List, [], ◌∷◌, Option, None, Some}
use Rattle.std.specs.Option.{option_map, option_or}
use Rattle.fb_syntax.specs.Located.{Located}
use Rattle.fb_syntax.specs.Signs.{dot}
use Rattle.fb_syntax.specs.DeclsRead.{DeclsRead}
use Rattle.fb_syntax.specs.declared.declarations.TypeDecl.{TypeDecl}
use Rattle.fb_syntax.specs.declared.declarations.TypeDecl.TheVariants.{Table, Struct, Enum, Union}
use Rattle.fb_syntax.specs.declared.declarations.Directive.TheVariants.{RootType, FileIdentifier}
use Rattle.fb_syntax.specs.declared.declarations.Declaration.{Declaration}
use Rattle.fb_syntax.specs.declared.declarations.Declaration.TheVariants as declarations
use Rattle.fb_schema.specs.Schema.{Name}

-- a table, struct, enum or union, and the namespace in force
pub record TypeRead : Type 0 where
  pub scope : Option Name
  pub declaration : TypeDecl

-- the name of the root's type, and the namespace in force
pub record RootRead : Type 0 where
  pub scope : Option Name
  pub name : Located

-- what some declarations give, and the namespace in force after them
pub record WalkRead : Type 0 where
  pub types : List TypeRead
  pub attributes : List Name
  pub root : Option RootRead
  pub identifier : Option Located
  pub scope : Option Name

abbrev pub nothing_read : WalkRead
nothing_read = record { types = []; attributes = []; root = None; identifier = None; scope = None }

abbrev pub scope_named : Option Located → Option Name
scope_named n = option_map (λ t. t.bytes) n

-- the types, with the namespace that is in force at first
abbrev pub types_in : Option Name → List Declaration → List TypeRead
types_in scope [] = []
types_in scope (declarations.Namespace n ∷ ds) = types_in (scope_named n) ds
types_in scope (declarations.Type t ∷ ds) = record { scope = scope; declaration = t } ∷ types_in scope ds
types_in scope (_ ∷ ds) = types_in scope ds

-- the attributes that the text declares
abbrev pub attributes_in : List Declaration → List Name
attributes_in [] = []
attributes_in (declarations.Attribute a ∷ ds) = a.bytes ∷ attributes_in ds
attributes_in (_ ∷ ds) = attributes_in ds

-- the last root
abbrev pub root_in : Option Name → List Declaration → Option RootRead
root_in scope [] = None
root_in scope (declarations.Namespace n ∷ ds) = root_in (scope_named n) ds
root_in scope (declarations.Directive (RootType r) ∷ ds) =
    option_or (root_in scope ds) (Some (record { scope = scope; name = r }))
root_in scope (_ ∷ ds) = root_in scope ds

-- the last file identifier
abbrev pub identifier_in : List Declaration → Option Located
identifier_in [] = None
identifier_in (declarations.Directive (FileIdentifier i) ∷ ds) = option_or (identifier_in ds) (Some i)
identifier_in (_ ∷ ds) = identifier_in ds

pub record Outline : Type 0 where
  pub types : List TypeRead
  pub attributes : List Name
  pub root : Option RootRead
  pub identifier : Option Located
  pub text_len : ℕ

abbrev pub outline_of : DeclsRead → Outline
outline_of d = record {
  types = types_in None d.declarations;
  attributes = attributes_in d.declarations;
  root = root_in None d.declarations;
  identifier = identifier_in d.declarations;
  text_len = d.text_len;
}

-- what these declarations give together with those before them
abbrev pub outline_behind : WalkRead → List Declaration → ℕ → Outline
outline_behind w ds text_len = record {
  types = w.types ++ types_in w.scope ds;
  attributes = w.attributes ++ attributes_in ds;
  root = option_or (root_in w.scope ds) w.root;
  identifier = option_or (identifier_in ds) w.identifier;
  text_len = text_len;
}

-- a type's name as it is declared
abbrev pub word_of : TypeDecl → Located
word_of (Table t) = t.name
word_of (Struct t) = t.name
word_of (Enum e) = e.name
word_of (Union u) = u.name

-- a name with the namespace in force before it
abbrev pub full_name : Option Name → Name → Name
full_name None name = name
full_name (Some scope) name = scope ++ dot ∷ name

abbrev pub name_of_type : TypeRead → Name
name_of_type r = full_name r.scope (word_of r.declaration).bytes
