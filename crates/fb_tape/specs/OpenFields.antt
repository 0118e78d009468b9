-- The stored fields of a table that isn't whole yet.
use Rattle.std.specs.Prelude.{ℕ, suc, ◌≡◌, ◌++◌, List, [], ◌∷◌, length, Bool, true, false, Option, Some}
use Rattle.fb_layout.specs.Laid.{LaidSchema, Slot, StoredKind, align_of, slots_of}
use Rattle.fb_layout.specs.Widths.{inline_align}
use Rattle.fb_value.specs.Counts.{entries_whole}
use Rattle.fb_value.specs.Datum.{Datum}
use Rattle.fb_value.specs.Fits.{EntriesFit}
use Rattle.fb_value.specs.Num.{Bytes}
use Rattle.fb_value.specs.View.{entries_in}
use Rattle.fb_tape.specs.InlineBytes.{AreInlineBytes}
use Rattle.fb_tape.specs.NotedFields.{IsNoted}
use Rattle.fb_tape.specs.StoredFields.{AreKnown, stored_in}
use Rattle.fb_tape.specs.Defaults.{is_stored}
use Rattle.fb_tape.specs.declared.ops.NotedField.{NotedField}
use Rattle.fb_tape.specs.declared.ops.NotedField.TheVariants.{Reference, Inline}

-- a field: its slot, its alignment, what is noted of it, and its bytes
pub record OpenField : Type 0 where
  pub slot : ℕ
  pub align : ℕ
  pub note : NotedField
  pub bytes : Bytes

-- A number or a struct in a slot.
pub record IsInlineField (L : LaidSchema) (slot : ℕ) (kind : StoredKind) (d : Datum) (x : OpenField) : Type 0 where
  pub slot_is : x.slot ≡ slot
  pub align_is : x.align ≡ align_of L kind
  pub note_is : x.note ≡ Inline (length x.bytes)
  pub inline : AreInlineBytes L kind d x.bytes

abbrev pub AddsInlineField : LaidSchema → ℕ → StoredKind → Datum → List OpenField → List OpenField → Type 0
AddsInlineField L slot kind d before after =
    (x : OpenField) × (after ≡ before ++ (x ∷ [])) × IsInlineField L slot kind d x

-- a reference in a slot
abbrev pub reference_field : ℕ → OpenField
reference_field slot = record { slot = slot; align = 4; note = Reference; bytes = [] }

-- The field of slot k, which stores a value, is first, and `others` holds of those after it.
pub record IsOpenFirst (L : LaidSchema) (k : ℕ) (f : Slot) (x : Option Datum) (opens : List OpenField)
    (others : List OpenField → Type 0) : Type 0 where
  pub field : OpenField
  pub behind : List OpenField
  pub value : Datum
  pub opens_are : opens ≡ field ∷ behind
  pub slot_is : field.slot ≡ k
  pub align_is : field.align ≡ inline_align L f.shape
  pub value_is : x ≡ Some value
  pub noted : IsNoted L f value field.note field.bytes
  pub rest : others behind

abbrev pub IsOpenIf : Bool → LaidSchema → ℕ → Slot → Option Datum → List OpenField → (List OpenField → Type 0) → Type 0
IsOpenIf true L k f x opens others = IsOpenFirst L k f x opens others
IsOpenIf false L k f x opens others = others opens

-- The fields are those that a table stores whose slots from k on are fs, which store xs: each stored one, in the order
-- of slots.
abbrev pub AreOpen : LaidSchema → ℕ → List Slot → List (Option Datum) → List OpenField → Type 0
AreOpen L k (f ∷ fs) (x ∷ xs) opens =
    IsOpenIf (is_stored f x) L k f x opens (λ behind. AreOpen L (suc k) fs xs behind)
AreOpen L k _ _ opens = opens ≡ []

-- The fields are those that a table of a type with these entries stores.
pub record IsOpenTable (L : LaidSchema) (t : ℕ) (opens : List OpenField) (xs : List (Option Datum)) : Type 0 where
  pub fits : EntriesFit L (slots_of L t) (entries_in xs)
  pub whole : entries_whole (entries_in xs) ≡ true
  pub known : AreKnown L (slots_of L t) (stored_in (slots_of L t) xs)
  pub stored : AreOpen L 0 (slots_of L t) (stored_in (slots_of L t) xs) opens
