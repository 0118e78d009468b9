-- The values that a type may have.
-- From the FlatBuffers documentation, "Writing a schema": Tables, Structs, Unions, Attributes (`required`,
-- `deprecated`).
use Rattle.std.specs.Prelude.{ℕ, ◌≡◌, ◌≢◌, ◌≤◌, List, [], ◌∷◌, false, Option, None, Some, slice_get}
use Rattle.std.specs.Str.{IsUtf8}
use Rattle.fb_schema.specs.Schema.{DeclaredSchema, DeclaredType, DeclaredBody, table_body, struct_body, enum_body}
use Rattle.fb_schema.specs.Schema.{union_body}
use Rattle.fb_schema.specs.WellDeclared.{InRange}
use Rattle.fb_layout.specs.Laid.{LaidSchema, Slot, StoredKind, scalar_kind, struct_kind, table_kind, union_kind}
use Rattle.fb_layout.specs.Laid.{text_kind, StoredShape, one_of, vector_of, slots_of, parts_of, member_by_code}
use Rattle.fb_value.specs.Datum.{Datum, a_number, a_text, a_vector, a_struct, a_table, a_member, an_unknown, Parts}
use Rattle.fb_value.specs.Datum.{no_parts, more_parts, SlotEntries, no_entries, absent_entry, present_entry}

-- A slot may have no entry where it isn't required and has no default: a code's and a deprecated one never has.
abbrev pub MayBeAbsent : Slot → Type 0
MayBeAbsent f = (f.required ≡ false) × (f.if_absent ≡ None)

abbrev mutual
  pub Fits : LaidSchema → StoredShape → Datum → Type 0
  Fits L (one_of (scalar_kind base)) (a_number n) = InRange base n
  Fits L (one_of (struct_kind s)) (a_struct ds) = PartsFit L (parts_of L s) ds
  Fits L (one_of text_kind) (a_text bytes) = IsUtf8 bytes
  Fits L (one_of (table_kind t)) (a_table type es) = (type ≡ t) × EntriesFit L (slots_of L t) es
  Fits L (one_of (union_kind u)) (a_member c d) = (t : ℕ) × (member_by_code L u c ≡ Some t)
      × Fits L (one_of (table_kind t)) d
  Fits L (one_of (union_kind u)) (an_unknown c) = (c ≢ 0) × (c ≤ 255) × (member_by_code L u c ≡ None)
  Fits L (vector_of kind) (a_vector ds) = EachFits L kind ds
  Fits L _ _ = ⊥

  -- one value for each kind
  pub PartsFit : LaidSchema → List StoredKind → Parts → Type 0
  PartsFit L [] no_parts = Unit {0}
  PartsFit L (k ∷ ks) (more_parts d ds) = Fits L (one_of k) d × PartsFit L ks ds
  PartsFit L _ _ = ⊥

  pub EachFits : LaidSchema → StoredKind → Parts → Type 0
  EachFits L kind no_parts = Unit {0}
  EachFits L kind (more_parts d ds) = Fits L (one_of kind) d × EachFits L kind ds

  -- one entry for each slot
  pub EntriesFit : LaidSchema → List Slot → SlotEntries → Type 0
  EntriesFit L [] no_entries = Unit {0}
  EntriesFit L (f ∷ fs) (absent_entry es) = MayBeAbsent f × EntriesFit L fs es
  EntriesFit L (f ∷ fs) (present_entry d es) = (f.deprecated ≡ false) × Fits L f.shape d × EntriesFit L fs es
  EntriesFit L _ _ = ⊥

-- what is stored for a declared type, if there is one
abbrev pub kind_of_type : ℕ → Option DeclaredType → Option StoredKind
kind_of_type t None = None
kind_of_type t (Some type) = Some (kind_of_body t type.body)
  where
    kind_of_body : ℕ → DeclaredBody → StoredKind
    kind_of_body t (table_body fs) = table_kind t
    kind_of_body t (struct_body fs align) = struct_kind t
    kind_of_body t (enum_body base flags values) = scalar_kind base
    kind_of_body t (union_body members) = union_kind t

-- what the type of a number is as a kind
abbrev pub kind_at : DeclaredSchema → ℕ → Option StoredKind
kind_at S t = kind_of_type t (slice_get S.types t)

abbrev pub FitsKind : LaidSchema → Option StoredKind → Datum → Type 0
FitsKind L None d = ⊥
FitsKind L (Some kind) d = Fits L (one_of kind) d

-- a value that the declared type of a number may have
abbrev pub FitsType : LaidSchema → ℕ → Datum → Type 0
FitsType L t d = FitsKind L (kind_at L.schema t) d

abbrev pub FitsRoot : LaidSchema → Datum → Type 0
FitsRoot L d = FitsType L L.schema.root d
