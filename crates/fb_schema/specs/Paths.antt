-- How an enum's value or a union's member is named outside its type: alone, or after the type's declared name
-- and a dot, or after its full name and a dot.
-- From the FlatBuffers documentation, "Writing a schema": Enums, Unions, Namespaces; "JSON parsing".
use Rattle.std.specs.Prelude.{ℕ, Bool, ◌||◌, Option, None, Some, ℤ, bytes_eq, if◌then◌else◌}
use Rattle.std.specs.Option.{option_and_then, option_map_or}
use Rattle.std.specs.Path.{rsplit_once}
use Rattle.fb_schema.specs.Schema.{Name, DeclaredBody, DeclaredSchema, body_at}
use Rattle.fb_schema.specs.Found.{name_at, number_named, code_named}

abbrev pub dot : ℕ
dot = 46

-- a type's declared name: its full name without the namespace
abbrev pub declared_name : Name → Name
declared_name full = option_map_or (λ split. split.1) (rsplit_once dot full) full

-- the type's full name or its declared one
abbrev pub is_name_of : Name → Name → Bool
is_name_of full name = bytes_eq name full || bytes_eq name (declared_name full)

-- the name of a value or member, from what stands before the last dot and after it
abbrev pub name_of_split : Name → Name → Option (Name × Name) → Option Name
name_of_split full path None = Some path
name_of_split full path (Some split) = if is_name_of full split.0 then Some split.1 else None

-- the name of a value or member that a path says for the type with a full name
abbrev pub name_in_path : Name → Name → Option Name
name_in_path full path = name_of_split full path (rsplit_once dot path)

-- what is found in a type by the name that a path says
abbrev pub found_by_path : {X : Type 0} → (DeclaredBody → Name → Option X) → DeclaredSchema → ℕ → Name → Option X
found_by_path found S t path = option_and_then (λ full. option_and_then (found (body_at S t)) (name_in_path full path))
    (name_at S t)

-- the number of an enum's value
abbrev pub number_by_path : DeclaredSchema → ℕ → Name → Option ℤ
number_by_path S e path = found_by_path number_named S e path

-- the code of a union's member
abbrev pub code_by_path : DeclaredSchema → ℕ → Name → Option ℕ
code_by_path S u path = found_by_path code_named S u path
