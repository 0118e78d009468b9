-- The numbers and structs of a value: where each stands, and that nothing is spare in it.
-- From the FlatBuffers documentation, "FlatBuffer Internals": Structs (fields stand at fixed offsets, with padding
-- between them), Strings and vectors (numbers and structs stand in the vector).
use Rattle.std.specs.Prelude.{ℕ, ◌+◌, ◌<◌, ◌++◌, ◌≡◌, Bool, false, ◌||◌, List, ◌∷◌, length, Option, None, Some}
use Rattle.std.specs.Prelude.{IsTrue}
use Rattle.fb_schema.specs.declared.kinds.Base.{Base}
use Rattle.fb_schema.specs.declared.kinds.Base.TheVariants.{Bool as Boolean}
use Rattle.fb_schema.specs.Schema.{body_at, is_struct}
use Rattle.fb_layout.specs.Laid.{LaidSchema, StoredKind, scalar_kind, struct_kind, slots_of, parts_of, struct_at}
use Rattle.fb_layout.specs.Laid.{size_of}
use Rattle.fb_value.specs.Datum.{Datum, a_vector, a_struct, a_table, a_member, Parts, no_parts, more_parts, SlotEntries}
use Rattle.fb_value.specs.Datum.{absent_entry, present_entry}
use Rattle.fb_value.specs.Lies.{LiesInline}
use Rattle.fb_value.specs.Num.{Bytes, num}
use Rattle.fb_value.specs.Places.{Target, table_part, member_part, vector_part, Sort, ref_place, part_place}
use Rattle.fb_value.specs.Places.{inline_place, Place, named_slots, target_of}
use Rattle.fb_tape.specs.Taken.{is_within, ZeroUnless}

-- A `bool` is 0 or 1.
abbrev pub IsBit : Base → ℕ → Type 0
IsBit Boolean x = x < 2
IsBit _ x = Unit {0}

-- whether a struct's byte i is one of a field
abbrev pub is_in_part : LaidSchema → List StoredKind → List ℕ → ℕ → Bool
is_in_part L (kind ∷ kinds) (o ∷ os) i = is_within o (size_of L kind) i || is_in_part L kinds os i
is_in_part L _ _ i = false

-- The bytes of a struct that no field takes are 0.
abbrev pub PadsStructWithZeros : LaidSchema → Bytes → ℕ → ℕ → Type 0
PadsStructWithZeros L b s p = ZeroUnless (is_in_part L (parts_of L s) (struct_at L s).offsets) b p (struct_at L s).size

-- A number or a struct has no slack: a `bool` is 0 or 1, and a struct is padded with zeros.
abbrev pub IsTightInline : LaidSchema → Bytes → StoredKind → ℕ → Type 0
IsTightInline L b (scalar_kind base) p = IsBit base (num b p 1)
IsTightInline L b (struct_kind s) p = PadsStructWithZeros L b s p
IsTightInline L b _ p = Unit {0}

-- P holds of the kind and the position of a number or a struct, and of each field in it
abbrev mutual
  pub EachInlineIn : LaidSchema → (StoredKind → ℕ → Type 0) → StoredKind → ℕ → Datum → Type 0
  EachInlineIn L P (scalar_kind base) p d = P (scalar_kind base) p
  EachInlineIn L P (struct_kind s) p (a_struct ds) =
      P (struct_kind s) p × EachFieldIn L P (parts_of L s) (struct_at L s).offsets p ds
  EachInlineIn L P _ p _ = Unit {0}

  pub EachFieldIn : LaidSchema → (StoredKind → ℕ → Type 0) → List StoredKind → List ℕ → ℕ → Parts → Type 0
  EachFieldIn L P (kind ∷ kinds) (o ∷ os) p (more_parts d ds) =
      EachInlineIn L P kind (p + o) d × EachFieldIn L P kinds os p ds
  EachFieldIn L P _ _ p _ = Unit {0}

-- in its place, or behind a reference
abbrev pub EachInlineBehind : LaidSchema → Bytes → (StoredKind → ℕ → Type 0) → Sort → ℕ → Datum → (Target → ℕ → Type 0)
    → Type 0
EachInlineBehind L b P (ref_place X) p d each = each X (p + num b p 4)
EachInlineBehind L b P (part_place X) p d each = each X p
EachInlineBehind L b P (inline_place kind) p d each = EachInlineIn L P kind p d
EachInlineBehind L b P _ p d each = Unit {0}

abbrev pub EachInlineNamed : LaidSchema → Bytes → (StoredKind → ℕ → Type 0) → Option Place → Datum
    → (Target → ℕ → Type 0) → Type 0
EachInlineNamed L b P None d each = Unit {0}
EachInlineNamed L b P (Some x) d each = EachInlineBehind L b P x.sort x.at d each

abbrev pub EachInlineElement : LaidSchema → Bytes → (StoredKind → ℕ → Type 0) → StoredKind → Option Target → ℕ → Datum
    → (Target → ℕ → Type 0) → Type 0
EachInlineElement L b P kind None p d each = EachInlineIn L P kind p d
EachInlineElement L b P kind (Some X) p d each = EachInlineBehind L b P (ref_place X) p d each

-- P holds of each number and struct of the value that lies in a part
abbrev mutual
  pub EachInline : LaidSchema → Bytes → (StoredKind → ℕ → Type 0) → Target → ℕ → Datum → Type 0
  EachInline L b P (vector_part kind) p (a_vector ds) = EachInlineItem L b P kind (p + 4) ds
  EachInline L b P (table_part t) p (a_table type es) = EachInlineEntry L b P (named_slots L b p 0 (slots_of L t)) es
  EachInline L b P (member_part c t) p (a_member c2 d) = EachInline L b P (table_part t) p d
  EachInline L b P _ p _ = Unit {0}

  pub EachInlineItem : LaidSchema → Bytes → (StoredKind → ℕ → Type 0) → StoredKind → ℕ → Parts → Type 0
  EachInlineItem L b P kind p no_parts = Unit {0}
  EachInlineItem L b P kind p (more_parts d ds) =
      EachInlineElement L b P kind (target_of kind) p d (λ X q. EachInline L b P X q d)
      × EachInlineItem L b P kind (p + size_of L kind) ds

  pub EachInlineEntry : LaidSchema → Bytes → (StoredKind → ℕ → Type 0) → List (Option Place) → SlotEntries → Type 0
  EachInlineEntry L b P (x ∷ xs) (absent_entry es) = EachInlineEntry L b P xs es
  EachInlineEntry L b P (x ∷ xs) (present_entry d es) =
      EachInlineNamed L b P x d (λ X q. EachInline L b P X q d) × EachInlineEntry L b P xs es
  EachInlineEntry L b P _ _ = Unit {0}

-- the same of what lies at a place
abbrev pub EachInlineAt : LaidSchema → Bytes → (StoredKind → ℕ → Type 0) → Sort → ℕ → Datum → Type 0
EachInlineAt L b P sort p d = EachInlineBehind L b P sort p d (λ X q. EachInline L b P X q d)

-- The bytes of a number or a struct: whatever is after them, the value lies in them, and nothing in them is spare.
pub record AreInlineBytes (L : LaidSchema) (kind : StoredKind) (d : Datum) (bytes : Bytes) : Type 0 where
  pub long : length bytes ≡ size_of L kind
  pub lies : (behind : Bytes) → LiesInline L (bytes ++ behind) kind 0 d
  pub tight : (behind : Bytes) → EachInlineIn L (IsTightInline L (bytes ++ behind)) kind 0 d

-- Such bytes were added after others.
abbrev pub AddsInline : LaidSchema → StoredKind → Datum → Bytes → Bytes → Type 0
AddsInline L kind d before after = (own : Bytes) × (after ≡ before ++ own) × AreInlineBytes L kind d own

-- Only more bytes came, after those before.
abbrev pub OnlyAdds : Bytes → Bytes → Type 0
OnlyAdds before after = (own : Bytes) × (after ≡ before ++ own)

-- what stands in its place: a number, or a struct that is declared
abbrev pub IsInline : LaidSchema → StoredKind → Type 0
IsInline L (scalar_kind base) = Unit {0}
IsInline L (struct_kind s) = IsTrue (is_struct (body_at L.schema s))
IsInline L _ = ⊥
