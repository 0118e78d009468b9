-- Values that are carried to a later schema, and taken back: rows worked by hand.
use Rattle.std.specs.Prelude.{◌≡◌, [], ◌∷◌, pos, refl}
use Rattle.fb_schema.specs.declared.kinds.Kind.TheVariants.{Table}
use Rattle.fb_schema.specs.declared.kinds.Shape.TheVariants.{One, Many}
use Rattle.fb_layout.specs.Laid.{LaidSchema}
use Rattle.fb_value.specs.Datum.{Datum, a_number, a_vector, a_table, a_member, an_unknown, no_parts, more_parts}
use Rattle.fb_value.specs.Datum.{no_entries, absent_entry, present_entry}
use Rattle.fb_conform.specs.Carry.{carry}
use Rattle.fb_conform.specs.Back.{back}
use Rattle.fb_conform.specs.ExampleSchemas.{id, field, int_field, text_field, with_default, optional_one}
use Rattle.fb_conform.specs.ExampleSchemas.{deprecated_one, one_table, s1, s2, s2_later, u_ab, u_abc, nested}
use Rattle.fb_conform.specs.ExampleSchemas.{nested_behind}

-- {"a":7}
abbrev seven : Datum
seven = a_table 0 (present_entry (a_number (pos 7)) no_entries)

-- A new number has its default.
pub new_field : carry s1 s2 seven
    ≡ a_table 0 (present_entry (a_number (pos 7)) (present_entry (a_number (pos 0)) no_entries))
new_field = refl

-- The table has another number in the later schema.
pub renumbered : carry s1 s2_later seven
    ≡ a_table 1 (present_entry (a_number (pos 7)) (present_entry (a_number (pos 0)) no_entries))
renumbered = refl

-- Each new field that isn't a number is absent, and so is an optional or a deprecated one.
abbrev of_every_kind : LaidSchema
of_every_kind = one_table (int_field 0 ∷ with_default (pos 5) (int_field 1) ∷ optional_one (int_field 2)
    ∷ deprecated_one (int_field 3) ∷ text_field 4 ∷ field 5 (One (Table (id 0))) ∷ field 6 (Many (Table (id 0))) ∷ [])

pub new_fields : carry s1 of_every_kind seven
    ≡ a_table 0 (present_entry (a_number (pos 7))
    (present_entry (a_number (pos 5))
    (absent_entry (absent_entry (absent_entry (absent_entry (absent_entry no_entries)))))))
new_fields = refl

-- A field that is deprecated later is gone.
pub deprecated_later : carry s1 (one_table (deprecated_one (int_field 0) ∷ [])) seven
    ≡ a_table 0 (absent_entry no_entries)
deprecated_later = refl

-- An optional number that is absent stays absent, and a present 0 stays present.
pub optional_absent : carry (one_table (optional_one (int_field 0) ∷ [])) (one_table (optional_one (int_field 0) ∷ []))
    (a_table 0 (absent_entry no_entries)) ≡ a_table 0 (absent_entry no_entries)
optional_absent = refl

pub optional_zero : carry (one_table (optional_one (int_field 0) ∷ [])) (one_table (optional_one (int_field 0) ∷ []))
    (a_table 0 (present_entry (a_number (pos 0)) no_entries)) ≡ a_table 0 (present_entry (a_number (pos 0)) no_entries)
optional_zero = refl

-- Tables inside are carried too, also in a vector, and to their new number.
pub nested_tables : carry (nested (int_field 0 ∷ [])) (nested_behind (int_field 0 ∷ text_field 1 ∷ []))
    (a_table 1 (present_entry (a_table 0 (present_entry (a_number (pos 1)) no_entries))
    (present_entry (a_vector (more_parts (a_table 0 (present_entry (a_number (pos 2)) no_entries)) no_parts))
    no_entries))) ≡ a_table 0
    (present_entry (a_table 1 (present_entry (a_number (pos 1)) (absent_entry no_entries)))
    (present_entry (a_vector
    (more_parts (a_table 1 (present_entry (a_number (pos 2)) (absent_entry no_entries))) no_parts)) no_entries))
nested_tables = refl

-- A union's member keeps its code.
pub union_member : carry u_ab u_abc
    (a_table 3 (absent_entry (present_entry (a_member 2 (a_table 1 no_entries)) no_entries)))
    ≡ a_table 4 (absent_entry (present_entry (a_member 2 (a_table 1 no_entries)) no_entries))
union_member = refl

-- An old program doesn't see a new field.
pub new_field_unseen : back s1 s2
    (a_table 0 (present_entry (a_number (pos 7)) (present_entry (a_number (pos 9)) no_entries))) ≡ seven
new_field_unseen = refl

-- For an old program a field that is deprecated later has its default, and an optional one is absent.
pub deprecated_returned : back (one_table (int_field 0 ∷ int_field 1 ∷ []))
    (one_table (deprecated_one (int_field 0) ∷ int_field 1 ∷ []))
    (a_table 0 (absent_entry (present_entry (a_number (pos 1)) no_entries)))
    ≡ a_table 0 (present_entry (a_number (pos 0)) (present_entry (a_number (pos 1)) no_entries))
deprecated_returned = refl

pub optional_returned : back (one_table (optional_one (int_field 0) ∷ int_field 1 ∷ []))
    (one_table (deprecated_one (optional_one (int_field 0)) ∷ int_field 1 ∷ []))
    (a_table 0 (absent_entry (present_entry (a_number (pos 1)) no_entries)))
    ≡ a_table 0 (absent_entry (present_entry (a_number (pos 1)) no_entries))
optional_returned = refl

-- A member that the old union hasn't got is its code alone; another is that member.
pub unknown_member : back u_ab u_abc
    (a_table 4 (absent_entry
    (present_entry (a_member 3 (a_table 2 (present_entry (a_number (pos 5)) no_entries))) no_entries)))
    ≡ a_table 3 (absent_entry (present_entry (an_unknown 3) no_entries))
unknown_member = refl

pub known_member : back u_ab u_abc
    (a_table 4 (absent_entry (present_entry (a_member 1 (a_table 0 no_entries)) no_entries)))
    ≡ a_table 3 (absent_entry (present_entry (a_member 1 (a_table 0 no_entries)) no_entries))
known_member = refl
