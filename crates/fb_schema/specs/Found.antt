-- What is found in a schema by its name or number.
use Rattle.std.specs.Prelude.{ℕ, zero, suc, List, [], Option, None, Some, find, position, option_map, slice_get}
use Rattle.std.specs.Prelude.{bytes_eq, codes, ℤ, if◌then◌else◌}
use Rattle.std.specs.Ordering.{int_eq}
use Rattle.fb_schema.specs.Schema.{Name, DeclaredField, DeclaredBody, table_body, struct_body, union_body}
use Rattle.fb_schema.specs.Schema.{DeclaredSchema, values_in, members_in}

-- the number of the first of some names that is this one
abbrev pub index_of : List Name → Name → Option ℕ
index_of names name = position (bytes_eq name) names

-- the number of the type that has a full name
abbrev pub type_named : DeclaredSchema → Name → Option ℕ
type_named S name = position (λ t. bytes_eq name t.name) S.types

-- the fields of a table or struct
abbrev pub fields_in : DeclaredBody → List DeclaredField
fields_in (table_body fs) = fs
fields_in (struct_body fs align) = fs
fields_in _ = []

-- the field of a table or struct that has a name
abbrev pub field_named : DeclaredBody → Name → Option DeclaredField
field_named body name = find (λ f. bytes_eq name f.name) (fields_in body)

-- the table of a union's member that has a code, from 1 on
abbrev pub member_coded : DeclaredBody → ℕ → Option ℕ
member_coded body zero = None
member_coded body (suc k) = option_map (λ m. m.1) (slice_get (members_in body) k)

-- the name of an enum's value that has a number
abbrev pub name_numbered : DeclaredBody → ℤ → Option Name
name_numbered body number = option_map (λ v. v.0) (find (λ v. int_eq number v.1) (values_in body))

-- the number of an enum's value that has a name
abbrev pub number_named : DeclaredBody → Name → Option ℤ
number_named body name = option_map (λ v. v.1) (find (λ v. bytes_eq name v.0) (values_in body))

-- the code of a union's member that has a name, from 1 on; NONE is 0
abbrev pub code_named : DeclaredBody → Name → Option ℕ
code_named (union_body members) name = if bytes_eq name (codes "NONE") then Some 0 else option_map (λ k. suc k)
    (position (λ m. bytes_eq name m.0) members)
code_named _ name = None

-- the full name of the type that has a number
abbrev pub name_at : DeclaredSchema → ℕ → Option Name
name_at S t = option_map (λ t. t.name) (slice_get S.types t)
