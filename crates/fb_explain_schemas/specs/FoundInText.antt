-- What of a schema text's declarations has a number, a name or an offset.
use Rattle.std.specs.Prelude.{ℕ, ◌==◌, Bool, false, List, [], Option, None, Some, is_some, map}
use Rattle.std.specs.List.{find, list_any}
use Rattle.fb_syntax.specs.FieldRead.{FieldRead}
use Rattle.fb_syntax.specs.declared.declarations.TypeDecl.{TypeDecl}
use Rattle.fb_syntax.specs.declared.declarations.TypeDecl.TheVariants.{Table, Struct, Union}
use Rattle.fb_syntax.specs.declared.declarations.UnionMember.{UnionMember}
use Rattle.fb_syntax.specs.declared.declarations.Declaration.{Declaration}
use Rattle.fb_syntax.specs.declared.declarations.Declaration.TheVariants as declarations
use Rattle.fb_resolve.specs.Outline.{types_in}
use Rattle.fb_declare.specs.FaultRows.{default_at}

-- the types in the order of the text, in which they are numbered
abbrev pub types_of : List Declaration → List TypeDecl
types_of ds = map (λ r. r.declaration) (types_in None ds)

-- the type that is declared
abbrev pub type_of : Declaration → Option TypeDecl
type_of (declarations.Type t) = Some t
type_of _ = None

-- the fields of a table or struct
abbrev pub fields_of : TypeDecl → List FieldRead
fields_of (Table t) = t.fields
fields_of (Struct t) = t.fields
fields_of _ = []

abbrev pub has_default_at : ℕ → FieldRead → Bool
has_default_at offset field = elim field.default [ None ↦ false | Some d ↦ default_at d == offset ]

-- a struct, one of whose fields has its default at an offset
abbrev pub is_struct_with : ℕ → Declaration → Bool
is_struct_with offset (declarations.Type (Struct t)) = is_some (find (has_default_at offset) t.fields)
is_struct_with offset _ = false

abbrev pub is_member_at : ℕ → UnionMember → Bool
is_member_at offset member = member.table.at == offset

-- a union, one of whose members has its type at an offset
abbrev pub is_union_with : ℕ → Declaration → Bool
is_union_with offset (declarations.Type (Union u)) = list_any (is_member_at offset) u.members
is_union_with offset _ = false
