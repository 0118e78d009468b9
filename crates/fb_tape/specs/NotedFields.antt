-- What a tape notes of the fields of a table.
use Rattle.std.specs.Prelude.{ℕ, ◌≡◌, ◌++◌, true, false, List, [], ◌∷◌, length, Option, Some, slice_get}
use Rattle.fb_layout.specs.Laid.{LaidSchema, Slot}
use Rattle.fb_value.specs.Datum.{Datum}
use Rattle.fb_value.specs.Num.{Bytes}
use Rattle.fb_tape.specs.InlineBytes.{AreInlineBytes}
use Rattle.fb_tape.specs.StoredFields.{inline_kind, is_reference}
use Rattle.fb_tape.specs.declared.ops.NotedField.{NotedField}
use Rattle.fb_tape.specs.declared.ops.NotedField.TheVariants.{Reference, Inline}

-- A field that stores a value: that it is a reference, or how many bytes stand in the table, and these.
abbrev pub IsNoted : LaidSchema → Slot → Datum → NotedField → Bytes → Type 0
IsNoted L f d Reference bytes = (is_reference f.shape ≡ true) × (bytes ≡ [])
IsNoted L f d (Inline n) bytes =
    (is_reference f.shape ≡ false) × (n ≡ length bytes) × AreInlineBytes L (inline_kind f.shape) d bytes

-- The field of slot k is noted first, and `others` holds of what is noted after it.
pub record IsNotedFirst (L : LaidSchema) (fs : List Slot) (xs : List (Option Datum)) (k : ℕ) (notes : List NotedField)
    (bytes : Bytes) (others : List NotedField → Bytes → Type 0) : Type 0 where
  pub field : Slot
  pub value : Datum
  pub note : NotedField
  pub own : Bytes
  pub notes_behind : List NotedField
  pub bytes_behind : Bytes
  pub is : slice_get fs k ≡ Some field
  pub has : slice_get xs k ≡ Some (Some value)
  pub notes_are : notes ≡ note ∷ notes_behind
  pub bytes_are : bytes ≡ own ++ bytes_behind
  pub noted : IsNoted L field value note own
  pub rest : others notes_behind bytes_behind

-- The fields of some slots of a table with the slots fs, which stores xs, are noted one after the other.
abbrev pub AreNoted : LaidSchema → List Slot → List (Option Datum) → List ℕ → List NotedField → Bytes → Type 0
AreNoted L fs xs [] notes bytes = (notes ≡ []) × (bytes ≡ [])
AreNoted L fs xs (k ∷ ks) notes bytes = IsNotedFirst L fs xs k notes bytes (λ ns bs. AreNoted L fs xs ks ns bs)
