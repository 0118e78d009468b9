-- The text of a value is UTF-8, where its own texts and the names of the schema are.
use Rattle.std.proofs.Common.{ℕ, zero, suc, ◌+◌, ◌/◌, ◌%◌, ◌<◌, ◌||◌, ◌==◌, nat_lt, ℤ, pos, negsuc, List, [], ◌∷◌, Bool}
use Rattle.std.proofs.Common.{true, false, Option, None, Some, IsUtf8, ◌++◌, codes, refl, arith, if◌then◌else◌}
use Rattle.std.specs.Fmt.{decimal, signed_decimal, digits, digits_onto, digit_glyph}
use Rattle.std.specs.Str.{IsAscii}
use Rattle.std.specs.Option.{option_map_or}
use Rattle.std.specs.Ordering.{int_eq}
use Rattle.std.proofs.lemmas.Str.{IsUtf8-nil, IsUtf8-append, IsUtf8-from_ascii}
use Rattle.json.proofs.Printed.Utf8.{IsUtf8-are_ascii, IsUtf8-quoted}
use Rattle.fb_schema.specs.declared.kinds.Base.TheVariants.{Bool as Boolean}
use Rattle.fb_schema.specs.declared.kinds.Kind.{Kind}
use Rattle.fb_schema.specs.declared.kinds.Kind.TheVariants.{Scalar, Enum, Struct, Table, Union}
use Rattle.fb_schema.specs.declared.kinds.Shape.{Shape}
use Rattle.fb_schema.specs.declared.kinds.Shape.TheVariants.{One, Many}
use Rattle.fb_schema.specs.Schema.{Name, DeclaredField, DeclaredBody, body_at, slots_in, parts_in}
use Rattle.fb_schema.specs.Found.{name_numbered}
use Rattle.fb_layout.specs.Laid.{LaidSchema}
use Rattle.fb_value.specs.Datum.{Datum, a_number, a_text, a_vector, a_struct, a_table, a_member, Parts, no_parts}
use Rattle.fb_value.specs.Datum.{more_parts, SlotEntries, no_entries, absent_entry, present_entry}
use Rattle.fb_json.specs.Flags.{has_flags}
use Rattle.fb_text.specs.Texts.{in_quotes, is_odd, bit_text, bits_text, bits_of, are_flags, flags_text, enum_text}
use Rattle.fb_text.specs.Texts.{number_text, edge, inside, new_line, line, closing, colon, is_printed, member_line}
use Rattle.fb_text.specs.Texts.{member_name, code_text, has_code, entry_text, value_text, items_text, parts_text}
use Rattle.fb_text.specs.Texts.{members_text, spaced_text}
use Rattle.fb_text.specs.declared.indents.Spacing.{Spacing}
use Rattle.fb_text.specs.declared.indents.Spacing.TheVariants.{Indented, Compact}
use Rattle.fb_text.specs.Names.{FieldsUtf8, BodyUtf8}
use Rattle.fb_text.proofs.texts.NamesAreUtf8.{NameUtf8, or_nothing, slots_utf8, parts_utf8}
use Rattle.fb_text.proofs.texts.NamesAreUtf8.{member_utf8}
use Rattle.fb_text.proofs.texts.NamesAreUtf8.{numbered_utf8}
use Rattle.fb_json.proofs.texts.ValueTextsAreUtf8.{HasUtf8, HaveUtf8, EntriesHaveUtf8}

either_utf8 : (b : Bool) (x y : List ℕ) → IsUtf8 x → IsUtf8 y → IsUtf8 (if b then x else y)
either_utf8 true x y h g = h
either_utf8 false x y h g = g

-- ---- numbers

one_ascii : (c : ℕ) → c < 128 → IsAscii (c ∷ [])
one_ascii c h zero = h
one_ascii c h (suc i) = omega arith

glyph_below : (d : ℕ) (b : Bool) → d < 10 → (if b then 48 + d else (87 + d)) < 128
glyph_below d true h = omega arith
glyph_below d false h = omega arith

onto_utf8 : (k n : ℕ) (behind : List ℕ) → IsUtf8 behind → IsUtf8 (digits_onto k 10 false n behind)
onto_utf8 zero n behind h = h
onto_utf8 (suc k) n behind h =
    let small : n % 10 < 10 = omega arith in
    let first = IsUtf8-from_ascii (digit_glyph false (n % 10) ∷ [])
    (one_ascii (digit_glyph false (n % 10)) (glyph_below (n % 10) (nat_lt (n % 10) 10) small)) in
    let more = IsUtf8-append (digit_glyph false (n % 10) ∷ []) behind first h in
    either_utf8 (n / 10 == 0) _ _ more (onto_utf8 k (n / 10) _ more)

digits_utf8 : (n : ℕ) → IsUtf8 (decimal n)
unfolding digits
digits_utf8 n = onto_utf8 64 n [] IsUtf8-nil

decimal_utf8 : (z : ℤ) → IsUtf8 (signed_decimal z)
decimal_utf8 (pos n) = digits_utf8 n
decimal_utf8 (negsuc n) =
    IsUtf8-append (codes "-") (decimal (suc n)) (IsUtf8-are_ascii (codes "-") refl) (digits_utf8 (suc n))

quotes_utf8 : (name : List ℕ) → IsUtf8 name → IsUtf8 (in_quotes name)
quotes_utf8 name h =
    IsUtf8-append (codes "\"") _ (IsUtf8-are_ascii (codes "\"") refl)
    (IsUtf8-append name (codes "\"") h (IsUtf8-are_ascii (codes "\"") refl))

module _ (body : DeclaredBody) (names : BodyUtf8 body) where
  bit_utf8 : (bit m : ℕ) (some : Bool) → IsUtf8 (bit_text (name_numbered body) bit m some)
  bit_utf8 bit m some =
      either_utf8 (is_odd m) _ []
      (IsUtf8-append _ _ (either_utf8 some (codes " ") [] (IsUtf8-are_ascii (codes " ") refl) IsUtf8-nil)
      (or_nothing (name_numbered body (pos bit)) (numbered_utf8 body (pos bit) names))) IsUtf8-nil

  bits_utf8 : (left bit m : ℕ) (some : Bool) → IsUtf8 (bits_text (name_numbered body) left bit m some)
  unfolding bits_text
  bits_utf8 zero bit m some = IsUtf8-nil
  bits_utf8 (suc left) bit m some =
      IsUtf8-append _ _ (bit_utf8 bit m some) (bits_utf8 left (bit + bit) (m / 2) (some || is_odd m))

  flags_utf8 : (n : ℤ) → IsUtf8 (flags_text body n)
  flags_utf8 n = either_utf8 (are_flags body (bits_of n)) _ _ (quotes_utf8 _ (bits_utf8 64 1 (bits_of n) false))
      (decimal_utf8 n)

  named_utf8 : (o : Option Name) (n : ℤ) → NameUtf8 o → IsUtf8 (option_map_or in_quotes o (signed_decimal n))
  named_utf8 None n h = decimal_utf8 n
  named_utf8 (Some name) n h = quotes_utf8 name h

  enum_utf8 : (n : ℤ) → IsUtf8 (enum_text body n)
  enum_utf8 n = either_utf8 (has_flags body) _ _ (flags_utf8 n)
      (named_utf8 (name_numbered body n) n (numbered_utf8 body n names))

-- ---- lines

edge_utf8 : (spacing : Spacing) → IsUtf8 (new_line (edge spacing))
edge_utf8 Indented = IsUtf8-are_ascii (codes "\n") refl
edge_utf8 Compact = IsUtf8-nil

line_utf8 : (indent : Option (List ℕ)) (some : Bool) → IsUtf8 (new_line indent) → IsUtf8 (line indent some)
line_utf8 indent some h =
    IsUtf8-append _ _ (either_utf8 some (codes ",") [] (IsUtf8-are_ascii (codes ",") refl) IsUtf8-nil) h

closing_utf8 : (indent : Option (List ℕ)) (some : Bool) → IsUtf8 (new_line indent) → IsUtf8 (closing indent some)
closing_utf8 indent some h = either_utf8 some _ [] h IsUtf8-nil

inside_utf8 : (indent : Option (List ℕ)) → IsUtf8 (new_line indent) → IsUtf8 (new_line (inside indent))
inside_utf8 None h = h
inside_utf8 (Some blanks) h =
    IsUtf8-append (codes "\n" ++ blanks) (codes "  ") h (IsUtf8-are_ascii (codes "  ") refl)

colon_utf8 : (indent : Option (List ℕ)) → IsUtf8 (colon indent)
colon_utf8 None = IsUtf8-are_ascii (codes "\":") refl
colon_utf8 (Some blanks) = IsUtf8-are_ascii (codes "\": ") refl

member_line_utf8 : (indent : Option (List ℕ)) (some : Bool) (name behind : List ℕ) → IsUtf8 (new_line indent)
    → IsUtf8 name → IsUtf8 behind
    → IsUtf8 (member_line indent some name behind)
member_line_utf8 indent some name behind h n b =
    IsUtf8-append _ _ (line_utf8 indent some h) (IsUtf8-append (codes "\"") _ (IsUtf8-are_ascii (codes "\"") refl)
    (IsUtf8-append name _ n (IsUtf8-append behind (colon indent) b (colon_utf8 indent))))

member_name_utf8 : (body : DeclaredBody) (code : ℕ) → BodyUtf8 body → IsUtf8 (member_name body code)
member_name_utf8 body zero h = IsUtf8-nil
member_name_utf8 body (suc k) h = or_nothing _ (member_utf8 body k h)

-- ---- values

module _ (L : LaidSchema) (names : (t : ℕ) → BodyUtf8 (body_at L.schema t)) (defaults : Bool) where
  number_utf8 : (kind : Kind) (n : ℤ) → IsUtf8 (number_text L.schema kind n)
  number_utf8 (Scalar Boolean) n =
      either_utf8 (int_eq n (pos 0)) (codes "false") (codes "true") (IsUtf8-are_ascii (codes "false") refl)
      (IsUtf8-are_ascii (codes "true") refl)
  number_utf8 (Enum e) n = enum_utf8 (body_at L.schema e.0) (names e.0) n
  number_utf8 _ n = decimal_utf8 n

  code_utf8 : (indent : Option (List ℕ)) (some : Bool) (name : Name) (shape : Shape) (d : Datum)
      → IsUtf8 (new_line indent) → IsUtf8 name
      → IsUtf8 (code_text L.schema indent some name shape d)
  code_utf8 indent some name (One (Union u)) (a_member c d) h n =
      IsUtf8-append _ _ (member_line_utf8 indent some name (codes "_type") h n (IsUtf8-are_ascii (codes "_type") refl))
      (quotes_utf8 _ (member_name_utf8 (body_at L.schema u.0) c (names u.0)))
  code_utf8 indent some name _ _ h n = IsUtf8-nil

  entry_utf8 : (printed : Bool) (indent : Option (List ℕ)) (some : Bool) (name : Name) (shape : Shape) (d : Datum)
      (value : List ℕ) → IsUtf8 (new_line indent) → IsUtf8 name → IsUtf8 value
      → IsUtf8 (entry_text L.schema printed indent some name shape d value)
  entry_utf8 false indent some name shape d value h n v = IsUtf8-nil
  entry_utf8 true indent some name shape d value h n v =
      IsUtf8-append _ _ (code_utf8 indent some name shape d h n)
      (IsUtf8-append _ value (member_line_utf8 indent (some || has_code shape d) name [] h n IsUtf8-nil) v)

  mutual
    value_utf8 : (indent : Option (List ℕ)) (shape : Shape) (d : Datum) → IsUtf8 (new_line indent) → HasUtf8 d
        → IsUtf8 (value_text L defaults indent shape d)
    value_utf8 indent (One kind) (a_number n) i h = number_utf8 kind n
    value_utf8 indent shape (a_text bytes) i h = IsUtf8-quoted bytes h
    value_utf8 indent (Many kind) (a_vector ds) i h =
        IsUtf8-append (codes "[") _
        (IsUtf8-are_ascii (codes "[") refl) (items_utf8 (inside indent) indent kind false ds (inside_utf8 indent i) i h)
    value_utf8 indent (One (Struct s)) (a_struct ds) i h =
        IsUtf8-append (codes "{") _
        (IsUtf8-are_ascii (codes "{") refl)
        (parts_text_utf8 (inside indent) indent false (parts_in (body_at L.schema s.0)) ds (inside_utf8 indent i) i
        (parts_utf8 _ (names s.0)) h)
    value_utf8 indent shape (a_table type es) i h =
        IsUtf8-append (codes "{") _
        (IsUtf8-are_ascii (codes "{") refl)
        (members_text_utf8 (inside indent) indent false (slots_in (body_at L.schema type)) es (inside_utf8 indent i)
        i (slots_utf8 _ (names type)) h)
    value_utf8 indent shape (a_member c d) i h = value_utf8 indent shape d i h
    value_utf8 indent _ _ i h = IsUtf8-nil

    items_utf8 : (inner indent : Option (List ℕ)) (kind : Kind) (some : Bool) (ds : Parts)
        → IsUtf8 (new_line inner) → IsUtf8 (new_line indent)
        → HaveUtf8 ds → IsUtf8 (items_text L defaults inner indent kind some ds)
    items_utf8 inner indent kind some no_parts i o h = IsUtf8-append _ (codes "]") (closing_utf8 indent some o)
        (IsUtf8-are_ascii (codes "]") refl)
    items_utf8 inner indent kind some (more_parts d ds) i o h =
        IsUtf8-append _ _ (line_utf8 inner some i)
        (IsUtf8-append _ _ (value_utf8 inner (One kind) d i h.0) (items_utf8 inner indent kind true ds i o h.1))

    parts_text_utf8 : (inner indent : Option (List ℕ)) (some : Bool) (fs : List DeclaredField) (ds : Parts)
        → IsUtf8 (new_line inner)
        → IsUtf8 (new_line indent) → FieldsUtf8 fs → HaveUtf8 ds
        → IsUtf8 (parts_text L defaults inner indent some fs ds)
    parts_text_utf8 inner indent some (f ∷ fs) (more_parts d ds) i o n h =
        IsUtf8-append _ _ (member_line_utf8 inner some f.name [] i n.0 IsUtf8-nil)
        (IsUtf8-append _ _ (value_utf8 inner f.shape d i h.0) (parts_text_utf8 inner indent true fs ds i o n.1 h.1))
    parts_text_utf8 inner indent some [] ds i o n h = IsUtf8-append _ (codes "}") (closing_utf8 indent some o)
        (IsUtf8-are_ascii (codes "}") refl)
    parts_text_utf8 inner indent some (f ∷ fs) no_parts i o n h = IsUtf8-append _ (codes "}")
        (closing_utf8 indent some o) (IsUtf8-are_ascii (codes "}") refl)

    members_text_utf8 : (inner indent : Option (List ℕ)) (some : Bool) (fs : List DeclaredField) (es : SlotEntries)
        → IsUtf8 (new_line inner) → IsUtf8 (new_line indent) → FieldsUtf8 fs → EntriesHaveUtf8 es
        → IsUtf8 (members_text L defaults inner indent some fs es)
    members_text_utf8 inner indent some (f ∷ fs) (present_entry d es) i o n h =
        IsUtf8-append _ _ (entry_utf8 (is_printed defaults f d) inner some f.name f.shape d _ i n.0
        (value_utf8 inner f.shape d i h.0))
        (members_text_utf8 inner indent (some || is_printed defaults f d) fs es i o n.1 h.1)
    members_text_utf8 inner indent some (f ∷ fs) (absent_entry es) i o n h =
        members_text_utf8 inner indent some fs es i o n.1 h
    members_text_utf8 inner indent some [] es i o n h = IsUtf8-append _ (codes "}") (closing_utf8 indent some o)
        (IsUtf8-are_ascii (codes "}") refl)
    members_text_utf8 inner indent some (f ∷ fs) no_entries i o n h = IsUtf8-append _ (codes "}")
        (closing_utf8 indent some o) (IsUtf8-are_ascii (codes "}") refl)

  -- the text of a value of the root table
  pub text_utf8 : (spacing : Spacing) (d : Datum) → HasUtf8 d → IsUtf8 (spaced_text spacing L defaults d)
  text_utf8 spacing d h =
      IsUtf8-append _ _
      (value_utf8 (edge spacing) (One (Table (record { 0 = L.schema.root }))) d (edge_utf8 spacing) h)
      (edge_utf8 spacing)
