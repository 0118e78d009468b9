-- Names in UTF-8.
use Rattle.std.specs.Prelude.{List, [], ◌∷◌, IsUtf8}
use Rattle.fb_schema.specs.Schema.{Name, DeclaredField, DeclaredBody, table_body, struct_body, enum_body, union_body}

abbrev pub FieldsUtf8 : List DeclaredField → Type 0
FieldsUtf8 [] = Unit {0}
FieldsUtf8 (f ∷ fs) = IsUtf8 f.name × FieldsUtf8 fs

abbrev pub NamesUtf8 : {A : Type 0} → List (Name × A) → Type 0
NamesUtf8 [] = Unit {0}
NamesUtf8 (x ∷ xs) = IsUtf8 x.0 × NamesUtf8 xs

-- the names in a type: of its fields, its values or its members
abbrev pub BodyUtf8 : DeclaredBody → Type 0
BodyUtf8 (table_body fs) = FieldsUtf8 fs
BodyUtf8 (struct_body fs align) = FieldsUtf8 fs
BodyUtf8 (enum_body base flags values) = NamesUtf8 values
BodyUtf8 (union_body members) = NamesUtf8 members
