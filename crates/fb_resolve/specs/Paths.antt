-- The paths of a text's namespaces and types, and the names that it uses for types.
-- From the FlatBuffers documentation, "Writing a schema": Namespaces, Types.
use Rattle.std.specs.Prelude.{ℕ, ◌≡◌, List, [], ◌∷◌, Option, None, Some, map, slice_get}
use Rattle.std.specs.List.{AllZip}
use Rattle.std.specs.Option.{ForSome, option_copied}
use Rattle.fb_resolve.specs.Words.{Path, words}
use Rattle.fb_resolve.specs.PathTree.{paths, IsTree, KeepsPaths}
use Rattle.fb_resolve.specs.Scopes.{tree_of, names_of, AreScopes, IsUse}
use Rattle.fb_resolve.specs.declared.namespaces.path_tree.PathTree.{PathTree}
use Rattle.fb_resolve.specs.Outline.{TypeRead, RootRead, WalkRead, name_of_type}
use Rattle.fb_resolve.specs.RepeatedNames.{repeated_names}
use Rattle.fb_resolve.specs.EnumValues.{enum_values_of}
use Rattle.fb_resolve.specs.declared.outline.OutlineNames.{OutlineNames}
use Rattle.fb_resolve.specs.declared.outline.TypeNotes.{TypeNotes}
use Rattle.fb_resolve.specs.declared.walk.DeclarationWalk.{DeclarationWalk}
use Rattle.fb_syntax.specs.FieldRead.{FieldRead}
use Rattle.fb_syntax.specs.declared.declarations.UnionMember.{UnionMember}
use Rattle.fb_syntax.specs.declared.declarations.TypeDecl.{TypeDecl}
use Rattle.fb_syntax.specs.declared.declarations.TypeDecl.TheVariants.{Table, Struct, Enum, Union}
use Rattle.fb_schema.specs.Schema.{Name}
use Rattle.fb_resolve.specs.Meaning.{type_name, words_of_scope, paths_of_types}
use Rattle.fb_resolve.specs.BasicTypes.{basic_type}
use Rattle.fb_resolve.specs.declared.outline.TypeUse.{TypeUse}
use Rattle.fb_resolve.specs.declared.outline.TypeUse.TheVariants.{Basic, Named}

-- a number is that of a path
abbrev pub IsPath : PathTree → ℕ → Path → Type 0
IsPath tree n path = slice_get (paths tree) n ≡ Some path

-- the names of fields' types, and of members' tables
abbrev pub types_used : List FieldRead → List Name
types_used fs = map (λ f. (type_name f.kind).bytes) fs

abbrev pub tables_used : List UnionMember → List Name
tables_used ms = map (λ m. m.table.bytes) ms

-- the names that a type's declaration uses
abbrev pub names_used : TypeDecl → List Name
names_used (Table t) = types_used t.fields
names_used (Struct s) = types_used s.fields
names_used (Enum e) = e.underlying.bytes ∷ []
names_used (Union u) = tables_used u.members

-- what is noted of a name that is used: its basic type, or else its number
abbrev pub IsNoted : PathTree → TypeUse → Name → Type 0
IsNoted used (Basic b) name = basic_type name ≡ Some b
IsNoted used (Named n) name = (basic_type name ≡ None) × IsUse used n name

abbrev pub AreUses : PathTree → List TypeUse → List Name → Type 0
AreUses used uses names = AllZip (IsNoted used) uses names

-- names are noted, and the numbers of others are kept
pub record AreNoted (old new : PathTree) (noted : List TypeUse) (names : List Name) : Type 0 where
  pub tree : IsTree new
  pub kept : KeepsPaths old new
  pub uses : AreUses new noted names

-- this is noted of a type: the path of its namespace, and the names that it uses
pub record AreNotesOf (tree used : PathTree) (notes : TypeNotes) (r : TypeRead) : Type 0 where
  pub namespace : IsPath tree notes.namespace (words_of_scope r.scope)
  pub uses : AreUses used notes.uses.items (names_used r.declaration)

-- the namespace of a root has a path of this number, and this is noted of the root's name
abbrev pub IsRootPlaced : PathTree → PathTree → ℕ → TypeUse → Option RootRead → Type 0
IsRootPlaced tree used n named root = ForSome root
    (λ r. IsPath tree n (words_of_scope r.scope) × IsNoted used named r.name.bytes)

-- what is read so far
abbrev pub walk_read : DeclarationWalk → WalkRead
walk_read w = record {
  types = w.types.items;
  attributes = map (λ a. a.now) w.attributes.items;
  root = w.root;
  identifier = option_copied w.identifier;
  scope = option_copied w.scope;
}

-- The namespace in force has its path, each type its full name's and its values, and each type and the root are noted.
pub record IsPlaced (w : DeclarationWalk) : Type 0 where
  pub tree : IsTree w.tree
  pub used : IsTree w.used
  pub scope : IsPath w.tree w.path (words_of_scope (option_copied w.scope))
  pub notes : AllZip (AreNotesOf w.tree w.used) w.notes.items w.types.items
  pub values : (others : List TypeRead) → w.values.items ≡ map (enum_values_of others) w.types.items
  pub full_names : AllZip (λ n r. IsPath w.tree n (words (name_of_type r))) w.full_names.items w.types.items
  pub root : IsRootPlaced w.tree w.used w.root_path w.root_use w.root

-- Each name has its meaning in each namespace, this is noted of each type, each enum has its values, and repeated
-- names are marked.
pub record AreNames (n : OutlineNames) (types : List TypeRead) : Type 0 where
  pub scopes : AreScopes n.scopes (paths_of_types types)
  pub notes : AllZip (AreNotesOf (tree_of n.scopes) (names_of n.scopes)) n.notes.items types
  pub values : n.values.items ≡ map (enum_values_of types) types
  pub repeats : n.repeats.items ≡ repeated_names name_of_type types
