-- What is said of a slot's entry by what was found in the slot.
-- From the FlatBuffers documentation, "FlatBuffer Internals": Tables. An absent scalar has its default.
use Rattle.std.specs.Prelude.{ℕ, ◌+◌, ◌≡◌, ◌≤◌, true, List, length, Option, None, Some, ℤ}
use Rattle.std.specs.Str.{is_utf8}
use Rattle.fb_schema.specs.declared.kinds.TypeId.{TypeId}
use Rattle.fb_schema.specs.declared.kinds.Kind.{Kind}
use Rattle.fb_schema.specs.declared.kinds.Base.{Base}
use Rattle.fb_layout.specs.Laid.{LaidSchema, scalar_kind, struct_kind, stored_kind}
use Rattle.fb_value.specs.Datum.{Datum, a_number, an_unknown}
use Rattle.fb_value.specs.Num.{Bytes, num, part_of}
use Rattle.fb_value.specs.Places.{Sort, table_part, member_part, text_part, vector_part, ref_place, inline_place}
use Rattle.fb_value.specs.Places.{code_place, unknown_place, Place}
use Rattle.fb_value.specs.Lies.{LiesAt}
use Rattle.fb_read.specs.declared.stored.Stored.{Stored}
use Rattle.fb_read.specs.declared.stored.Stored.TheVariants.{Absent, Code, Unknown, Number, Fixed, Text, Table, Member}
use Rattle.fb_read.specs.declared.stored.Stored.TheVariants.{Vector}

-- the place that a slot names
abbrev pub stored_place : LaidSchema → Stored → Option Place
stored_place L (Absent default) = None
stored_place L (Code code p) = Some (record {
  sort =
      code_place code.union.0 code.value_slot code.required code.present;
  at = p;
})
stored_place L (Unknown code p) = Some (record { sort = unknown_place code; at = p })
stored_place L (Number base p) = Some (record { sort = inline_place (scalar_kind base); at = p })
stored_place L (Fixed s p) = Some (record { sort = inline_place (struct_kind s.0); at = p })
stored_place L (Text p) = Some (record { sort = ref_place text_part; at = p })
stored_place L (Table t p) = Some (record { sort = ref_place (table_part t.0); at = p })
stored_place L (Member code t p) = Some (record { sort = ref_place (member_part code t.0); at = p })
stored_place L (Vector kind p) = Some (record { sort = ref_place (vector_part (stored_kind L.schema kind)); at = p })

-- where that is
abbrev pub stored_at : Stored → ℕ
stored_at (Absent default) = 0
stored_at (Code code p) = p
stored_at (Unknown code p) = p
stored_at (Number base p) = p
stored_at (Fixed s p) = p
stored_at (Text p) = p
stored_at (Table t p) = p
stored_at (Member code t p) = p
stored_at (Vector kind p) = p

-- an entry that lies at a place
abbrev pub HasAt : LaidSchema → Bytes → Sort → ℕ → Option Datum → Type 0
HasAt L b sort p o = (d : Datum) × (o ≡ Some d) × LiesAt L b sort p d

abbrev pub number_entry : Option ℤ → Option Datum
number_entry None = None
number_entry (Some n) = Some (a_number n)

-- the entry is what was found, or lies where it was found
abbrev pub StoredAs : LaidSchema → Bytes → Stored → Option Datum → Type 0
StoredAs L b (Absent default) o = o ≡ number_entry default
StoredAs L b (Code code p) o = o ≡ None
StoredAs L b (Unknown code p) o = o ≡ Some (an_unknown code)
StoredAs L b (Number base p) o = HasAt L b (inline_place (scalar_kind base)) p o
StoredAs L b (Fixed s p) o = HasAt L b (inline_place (struct_kind s.0)) p o
StoredAs L b (Text p) o = HasAt L b (ref_place text_part) p o
StoredAs L b (Table t p) o = HasAt L b (ref_place (table_part t.0)) p o
StoredAs L b (Member code t p) o = HasAt L b (ref_place (member_part code t.0)) p o
StoredAs L b (Vector kind p) o = HasAt L b (ref_place (vector_part (stored_kind L.schema kind))) p o

-- where a text's reference is, and so on
abbrev pub text_place_of : Stored → Option ℕ
text_place_of (Text p) = Some p
text_place_of _ = None

abbrev pub table_place_of : Stored → Option (TypeId × ℕ)
table_place_of (Table t p) = Some (t, p)
table_place_of _ = None

abbrev pub member_place_of : Stored → Option (ℕ × TypeId × ℕ)
member_place_of (Member code t p) = Some (code, t, p)
member_place_of _ = None

abbrev pub vector_place_of : Stored → Option (Kind × ℕ)
vector_place_of (Vector kind p) = Some (kind, p)
vector_place_of _ = None

abbrev pub struct_place_of : Stored → Option (TypeId × ℕ)
struct_place_of (Fixed s p) = Some (s, p)
struct_place_of _ = None

abbrev pub number_place_of : Stored → Option (Base × ℕ)
number_place_of (Number base p) = Some (base, p)
number_place_of _ = None

abbrev pub default_in : Stored → Option ℤ
default_in (Absent default) = default
default_in _ = None

abbrev pub unknown_code_of : Stored → Option ℕ
unknown_code_of (Unknown code p) = Some code
unknown_code_of _ = None

-- the bytes of the text behind the reference at p
abbrev pub text_behind : Bytes → ℕ → List ℕ
text_behind b p = let q = p + num b p 4 in part_of b (q + 4) (num b q 4)

-- a text behind the reference at p is within the bytes, and is UTF-8
pub record IsTextBehind (b : Bytes) (p : ℕ) : Type 0 where
  pub reference : p + 4 ≤ length b
  pub count : (p + num b p 4) + 4 ≤ length b
  pub within : ((p + num b p 4) + 4) + num b (p + num b p 4) 4 ≤ length b
  pub valid : is_utf8 (text_behind b p) ≡ true
