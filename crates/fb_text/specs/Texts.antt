-- The JSON text of a value: strict JSON, with two blanks an indent and one member or element a line, or compact:
-- without blanks and line feeds outside strings.
-- From the FlatBuffers documentation, "JSON parsing" (text output) and RFC 8259 (strings).
use Rattle.std.specs.Prelude.{ℕ, zero, suc, ◌+◌, ◌/◌, ◌%◌, ◌==◌, ◌&&◌, ◌||◌, ℤ, pos, negsuc, List, [], ◌∷◌, ◌++◌, Bool}
use Rattle.std.specs.Prelude.{true, false, not, Option, None, Some, codes, is_some, option_map, slice_get}
use Rattle.std.specs.Prelude.{if◌then◌else◌}
use Rattle.std.specs.Fmt.{signed_decimal}
use Rattle.std.specs.Option.{option_map_or, unwrap_or}
use Rattle.std.specs.Ordering.{int_eq}
use Rattle.json.specs.Print.{quoted}
use Rattle.fb_schema.specs.declared.kinds.Base.TheVariants.{Bool as Boolean}
use Rattle.fb_schema.specs.declared.kinds.Kind.{Kind}
use Rattle.fb_schema.specs.declared.kinds.Kind.TheVariants.{Scalar, Enum, Struct, Table, Union}
use Rattle.fb_schema.specs.declared.kinds.Shape.{Shape}
use Rattle.fb_schema.specs.declared.kinds.Shape.TheVariants.{One, Many}
use Rattle.fb_schema.specs.Schema.{Name, DeclaredField, DeclaredBody, DeclaredSchema, body_at, slots_in, parts_in}
use Rattle.fb_schema.specs.Schema.{members_in}
use Rattle.fb_schema.specs.Found.{name_numbered}
use Rattle.fb_layout.specs.Laid.{LaidSchema}
use Rattle.fb_value.specs.Datum.{Datum, a_number, a_text, a_vector, a_struct, a_table, a_member, Parts, no_parts}
use Rattle.fb_value.specs.Datum.{more_parts, SlotEntries, absent_entry, present_entry}
use Rattle.fb_json.specs.Flags.{has_flags}
use Rattle.fb_text.specs.declared.indents.Spacing.{Spacing}
use Rattle.fb_text.specs.declared.indents.Spacing.TheVariants.{Indented, Compact}

-- ---- numbers

abbrev pub in_quotes : List ℕ → List ℕ
in_quotes name = codes "\"" ++ (name ++ codes "\"")

abbrev pub is_odd : ℕ → Bool
is_odd m = m % 2 == 1

-- Has the lowest bit of a number a name, if it is set? It stands for `bit`.
abbrev pub has_name : (ℤ → Option Name) → ℕ → ℕ → Bool
has_name name bit m = not (is_odd m) || is_some (name (pos bit))

-- the same of so many of its bits
unfoldable pub are_named : (ℤ → Option Name) → ℕ → ℕ → ℕ → Bool
are_named name zero bit m = true
are_named name (suc left) bit m = has_name name bit m && are_named name left (bit + bit) (m / 2)

-- the name of the lowest bit, if it is set, behind a blank where another name stands before
abbrev pub bit_text : (ℤ → Option Name) → ℕ → ℕ → Bool → List ℕ
bit_text name bit m some = if is_odd m then (if some then codes " " else []) ++ unwrap_or (name (pos bit)) [] else []

-- the names of so many bits in rising order that are still to be written
unfoldable pub bits_text : (ℤ → Option Name) → ℕ → ℕ → ℕ → Bool → List ℕ
bits_text name zero bit m some = []
bits_text name (suc left) bit m some =
    bit_text name bit m some ++ bits_text name left (bit + bit) (m / 2) (some || is_odd m)

-- the bits of a number; a negative one has none here
abbrev pub bits_of : ℤ → ℕ
bits_of (pos m) = m
bits_of (negsuc m) = 0

-- With `bit_flags` a number is the names of its bits, if it has bits and each has a name.
abbrev pub are_flags : DeclaredBody → ℕ → Bool
are_flags body m = not (m == 0) && are_named (name_numbered body) 64 1 m

abbrev pub flags_text : DeclaredBody → ℤ → List ℕ
flags_text body n = if are_flags body (bits_of n) then in_quotes (bits_text (name_numbered body) 64 1 (bits_of n) false)
    else signed_decimal n

-- An enum's number is its name, if it has one.
abbrev pub enum_text : DeclaredBody → ℤ → List ℕ
enum_text body n = if has_flags body then flags_text body n else option_map_or in_quotes (name_numbered body n)
    (signed_decimal n)

abbrev pub number_text : DeclaredSchema → Kind → ℤ → List ℕ
number_text S (Scalar Boolean) n = if int_eq n (pos 0) then codes "false" else codes "true"
number_text S (Enum e) n = enum_text (body_at S e.0) n
number_text S kind n = signed_decimal n

-- ---- lines

-- The indent of a line is its blanks; a compact text has no lines, so none has an indent.
abbrev pub edge : Spacing → Option (List ℕ)
edge Indented = Some []
edge Compact = None

-- two blanks more
abbrev pub inside : Option (List ℕ) → Option (List ℕ)
inside indent = option_map (λ blanks. blanks ++ codes "  ") indent

-- a new line and its indent
abbrev pub new_line : Option (List ℕ) → List ℕ
new_line None = []
new_line (Some blanks) = codes "\n" ++ blanks

-- in front of a member or an element: a comma behind an earlier one, and a new line
abbrev pub line : Option (List ℕ) → Bool → List ℕ
line indent some = (if some then codes "," else []) ++ new_line indent

-- in front of a closing bracket, where something stands before it
abbrev pub closing : Option (List ℕ) → Bool → List ℕ
closing indent some = if some then new_line indent else []

-- behind a member's name: its quote, a colon, and where there are lines a blank
abbrev pub colon : Option (List ℕ) → List ℕ
colon None = codes "\":"
colon (Some blanks) = codes "\": "

-- the line of a member, up to its value
abbrev pub member_line : Option (List ℕ) → Bool → Name → List ℕ → List ℕ
member_line indent some name behind = line indent some ++ (codes "\"" ++ (name ++ (behind ++ colon indent)))

-- ---- members

-- A number of a table is printed unless it is at its default; an optional one has none.
abbrev pub is_printed : Bool → DeclaredField → Datum → Bool
is_printed defaults f (a_number n) = defaults || (f.optional || not (int_eq n f.default))
is_printed defaults f _ = true

-- the name of the member that a union's code names
abbrev pub member_name : DeclaredBody → ℕ → Name
member_name body zero = []
member_name body (suc k) = unwrap_or (option_map (λ m. m.0) (slice_get (members_in body) k)) []

-- a union's code, in front of its member: of a field `x` its member is called `x_type`
abbrev pub code_text : DeclaredSchema → Option (List ℕ) → Bool → Name → Shape → Datum → List ℕ
code_text S indent some name (One (Union u)) (a_member c d) =
    member_line indent some name (codes "_type") ++ in_quotes (member_name (body_at S u.0) c)
code_text S indent some name _ _ = []

abbrev pub has_code : Shape → Datum → Bool
has_code (One (Union u)) (a_member c d) = true
has_code _ _ = false

-- one member, if it is printed
abbrev pub entry_text : DeclaredSchema → Bool → Option (List ℕ) → Bool → Name → Shape → Datum → List ℕ → List ℕ
entry_text S false indent some name shape d value = []
entry_text S true indent some name shape d value =
    code_text S indent some name shape d ++ (member_line indent (some || has_code shape d) name [] ++ value)

-- ---- values

-- A list of members or elements is those that are still to be written, and the closing bracket.
abbrev mutual
  pub value_text : LaidSchema → Bool → Option (List ℕ) → Shape → Datum → List ℕ
  value_text L defaults indent (One kind) (a_number n) = number_text L.schema kind n
  value_text L defaults indent shape (a_text bytes) = quoted bytes
  value_text L defaults indent (Many kind) (a_vector ds) =
      codes "[" ++ items_text L defaults (inside indent) indent kind false ds
  value_text L defaults indent (One (Struct s)) (a_struct ds) =
      codes "{" ++ parts_text L defaults (inside indent) indent false (parts_in (body_at L.schema s.0)) ds
  value_text L defaults indent shape (a_table type es) =
      codes "{" ++ members_text L defaults (inside indent) indent false (slots_in (body_at L.schema type)) es
  value_text L defaults indent shape (a_member c d) = value_text L defaults indent shape d
  value_text L defaults indent _ _ = []

  pub items_text : LaidSchema → Bool → Option (List ℕ) → Option (List ℕ) → Kind → Bool → Parts → List ℕ
  items_text L defaults inner indent kind some no_parts = closing indent some ++ codes "]"
  items_text L defaults inner indent kind some (more_parts d ds) =
      line inner some ++ (value_text L defaults inner (One kind) d ++ items_text L defaults inner indent kind true ds)

  pub parts_text : LaidSchema → Bool → Option (List ℕ) → Option (List ℕ) → Bool → List DeclaredField → Parts → List ℕ
  parts_text L defaults inner indent some (f ∷ fs) (more_parts d ds) =
      member_line inner some f.name []
      ++ (value_text L defaults inner f.shape d ++ parts_text L defaults inner indent true fs ds)
  parts_text L defaults inner indent some _ _ = closing indent some ++ codes "}"

  pub members_text : LaidSchema → Bool → Option (List ℕ) → Option (List ℕ) → Bool → List DeclaredField → SlotEntries
      → List ℕ
  members_text L defaults inner indent some (f ∷ fs) (present_entry d es) =
      entry_text L.schema (is_printed defaults f d) inner some f.name f.shape d (value_text L defaults inner f.shape d)
      ++ members_text L defaults inner indent (some || is_printed defaults f d) fs es
  members_text L defaults inner indent some (f ∷ fs) (absent_entry es) = members_text L defaults inner indent some fs es
  members_text L defaults inner indent some _ _ = closing indent some ++ codes "}"

-- the text of a value of the root table; where there are lines, with a line feed at its end
abbrev pub spaced_text : Spacing → LaidSchema → Bool → Datum → List ℕ
spaced_text spacing L defaults d =
    value_text L defaults (edge spacing) (One (Table (record { 0 = L.schema.root }))) d ++ new_line (edge spacing)

-- the indented text
abbrev pub json_text : LaidSchema → Bool → Datum → List ℕ
json_text L defaults d = spaced_text Indented L defaults d
