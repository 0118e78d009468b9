-- Where a value lies in bytes.
-- From the FlatBuffers documentation, "FlatBuffer Internals". Nothing is said of order, overlap or sharing.
use Rattle.std.specs.Prelude.{ℕ, ◌+◌, ◌≡◌, List, [], ◌∷◌, Option, None, Some, ℤ}
use Rattle.fb_schema.specs.Alignments.{base_size}
use Rattle.fb_layout.specs.Laid.{LaidSchema, Slot, StoredKind, scalar_kind, struct_kind, slots_of, parts_of, struct_at}
use Rattle.fb_layout.specs.Laid.{size_of}
use Rattle.fb_value.specs.Datum.{Datum, a_number, a_text, a_vector, a_struct, a_table, a_member, an_unknown, Parts}
use Rattle.fb_value.specs.Datum.{no_parts, more_parts, SlotEntries, no_entries, absent_entry, present_entry, count}
use Rattle.fb_value.specs.Num.{Bytes, num, part_of, scalar_of}
use Rattle.fb_value.specs.Places.{Target, table_part, member_part, text_part, vector_part, Sort, ref_place, part_place}
use Rattle.fb_value.specs.Places.{inline_place, code_place, unknown_place, Place, named_slots, target_of}
use Rattle.fb_value.specs.Rules.{Aligned, from_start, KeepsBy}

-- Numbers and structs stand in their place without references. A struct's field i lies at its offset.
abbrev mutual
  pub LiesInline : LaidSchema → Bytes → StoredKind → ℕ → Datum → Type 0
  LiesInline L b (scalar_kind base) p (a_number n) = n ≡ scalar_of base (num b p (base_size base))
  LiesInline L b (struct_kind s) p (a_struct ds) = LiesParts L b (parts_of L s) (struct_at L s).offsets p ds
  LiesInline L b _ p _ = ⊥

  pub LiesParts : LaidSchema → Bytes → List StoredKind → List ℕ → ℕ → Parts → Type 0
  LiesParts L b (k ∷ ks) (o ∷ os) p (more_parts d ds) = LiesInline L b k (p + o) d × LiesParts L b ks os p ds
  LiesParts L b [] _ p no_parts = Unit {0}
  LiesParts L b _ _ p _ = ⊥

-- what lies at a place, or behind it where it is a reference
abbrev pub BehindBy : Aligned → LaidSchema → Bytes → Sort → ℕ → (Sort → ℕ → Type 0) → Type 0
BehindBy al L b (ref_place X) p lies = KeepsBy al L b (ref_place X) p × lies (part_place X) (p + num b p 4)
BehindBy al L b (part_place X) p lies = lies (part_place X) p
BehindBy al L b (inline_place kind) p lies = lies (inline_place kind) p
BehindBy al L b (code_place u k required here) p lies = ⊥
BehindBy al L b (unknown_place c) p lies = ⊥

-- a code is no entry of its own, but keeps its rules
abbrev pub IsCodeBy : Aligned → LaidSchema → Bytes → Sort → ℕ → Type 0
IsCodeBy al L b (code_place u k required here) p = KeepsBy al L b (code_place u k required here) p
IsCodeBy al L b _ p = ⊥

-- a slot without an entry: it names no place, or a code's, and has no default
abbrev pub AbsentEntryBy : Aligned → LaidSchema → Bytes → Slot → Option Place → Type 0
AbsentEntryBy al L b f None = f.if_absent ≡ None
AbsentEntryBy al L b f (Some x) = IsCodeBy al L b x.sort x.at

-- what a slot that names a place has: a code that no member has, or what lies there
abbrev pub EntryBy : Aligned → LaidSchema → Bytes → Sort → ℕ → Datum → (Sort → ℕ → Type 0) → Type 0
EntryBy al L b (unknown_place c) p d lies = d ≡ an_unknown c
EntryBy al L b (ref_place X) p d lies = BehindBy al L b (ref_place X) p lies
EntryBy al L b (part_place X) p d lies = BehindBy al L b (part_place X) p lies
EntryBy al L b (inline_place kind) p d lies = BehindBy al L b (inline_place kind) p lies
EntryBy al L b (code_place u k required here) p d lies = ⊥

-- a slot with an entry: its default, or what lies at the place that it names
abbrev pub PresentEntryBy : Aligned → LaidSchema → Bytes → Slot → Option Place → Datum → (Sort → ℕ → Type 0) → Type 0
PresentEntryBy al L b f None d lies = (n : ℤ) × (f.if_absent ≡ Some n) × (d ≡ a_number n)
PresentEntryBy al L b f (Some x) d lies = EntryBy al L b x.sort x.at d lies

-- an element of a vector: a text or table behind its reference, all else in its place
abbrev pub ElementBy : Aligned → LaidSchema → Bytes → StoredKind → ℕ → Option Target → Datum → (Sort → ℕ → Type 0)
    → Type 0
ElementBy al L b kind p None d lies = LiesInline L b kind p d
ElementBy al L b kind p (Some X) d lies = BehindBy al L b (ref_place X) p lies

abbrev mutual
  pub LiesBy : Aligned → LaidSchema → Bytes → Sort → ℕ → Datum → Type 0
  LiesBy al L b (inline_place kind) p d = KeepsBy al L b (inline_place kind) p × LiesInline L b kind p d
  LiesBy al L b (part_place text_part) p (a_text bytes) = KeepsBy al L b (part_place text_part) p
      × (bytes ≡ part_of b (p + 4) (num b p 4))
  LiesBy al L b (part_place (vector_part kind)) p (a_vector ds) = KeepsBy al L b (part_place (vector_part kind)) p
      × (count ds ≡ num b p 4) × LiesItemsBy al L b kind (p + 4) ds
  LiesBy al L b (part_place (table_part t)) p (a_table type es) = KeepsBy al L b (part_place (table_part t)) p
      × (type ≡ t) × LiesSlotsBy al L b (slots_of L t) (named_slots L b p 0 (slots_of L t)) es
  LiesBy al L b (part_place (member_part c t)) p (a_member c2 d) =
      (c2 ≡ c) × LiesBy al L b (part_place (table_part t)) p d
  LiesBy al L b _ p _ = ⊥

  pub LiesItemsBy : Aligned → LaidSchema → Bytes → StoredKind → ℕ → Parts → Type 0
  LiesItemsBy al L b kind p no_parts = Unit {0}
  LiesItemsBy al L b kind p (more_parts d ds) =
      ElementBy al L b kind p (target_of kind) d (λ sort q. LiesBy al L b sort q d)
      × LiesItemsBy al L b kind (p + size_of L kind) ds

  -- one entry a slot, beside the places that the slots name
  pub LiesSlotsBy : Aligned → LaidSchema → Bytes → List Slot → List (Option Place) → SlotEntries → Type 0
  LiesSlotsBy al L b [] [] no_entries = Unit {0}
  LiesSlotsBy al L b (f ∷ fs) (x ∷ xs) (absent_entry es) = AbsentEntryBy al L b f x × LiesSlotsBy al L b fs xs es
  LiesSlotsBy al L b (f ∷ fs) (x ∷ xs) (present_entry d es) =
      PresentEntryBy al L b f x d (λ sort q. LiesBy al L b sort q d) × LiesSlotsBy al L b fs xs es
  LiesSlotsBy al L b _ _ _ = ⊥

-- what lies at a place, also behind a reference
abbrev pub LiesAtBy : Aligned → LaidSchema → Bytes → Sort → ℕ → Datum → Type 0
LiesAtBy al L b sort p d = BehindBy al L b sort p (λ s q. LiesBy al L b s q d)

-- in a whole buffer
abbrev pub Behind : LaidSchema → Bytes → Sort → ℕ → (Sort → ℕ → Type 0) → Type 0
Behind L b sort p lies = BehindBy from_start L b sort p lies

abbrev pub IsCode : LaidSchema → Bytes → Sort → ℕ → Type 0
IsCode L b sort p = IsCodeBy from_start L b sort p

abbrev pub AbsentEntry : LaidSchema → Bytes → Slot → Option Place → Type 0
AbsentEntry L b f x = AbsentEntryBy from_start L b f x

abbrev pub EntryAt : LaidSchema → Bytes → Sort → ℕ → Datum → (Sort → ℕ → Type 0) → Type 0
EntryAt L b sort p d lies = EntryBy from_start L b sort p d lies

abbrev pub PresentEntry : LaidSchema → Bytes → Slot → Option Place → Datum → (Sort → ℕ → Type 0) → Type 0
PresentEntry L b f x d lies = PresentEntryBy from_start L b f x d lies

abbrev pub Element : LaidSchema → Bytes → StoredKind → ℕ → Option Target → Datum → (Sort → ℕ → Type 0) → Type 0
Element L b kind p X d lies = ElementBy from_start L b kind p X d lies

abbrev pub Lies : LaidSchema → Bytes → Sort → ℕ → Datum → Type 0
Lies L b sort p d = LiesBy from_start L b sort p d

abbrev pub LiesItems : LaidSchema → Bytes → StoredKind → ℕ → Parts → Type 0
LiesItems L b kind p ds = LiesItemsBy from_start L b kind p ds

abbrev pub LiesSlots : LaidSchema → Bytes → List Slot → List (Option Place) → SlotEntries → Type 0
LiesSlots L b fs xs es = LiesSlotsBy from_start L b fs xs es

abbrev pub LiesAt : LaidSchema → Bytes → Sort → ℕ → Datum → Type 0
LiesAt L b sort p d = LiesAtBy from_start L b sort p d
