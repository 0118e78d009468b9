-- What noting a value adds to a tape, and to the fields of the tables that aren't whole yet.
use Rattle.std.specs.Prelude.{ℕ, ◌+◌, ◌-◌, ◌≡◌, ◌++◌, List, [], ◌∷◌, Option, Some, pos}
use Rattle.fb_schema.specs.declared.kinds.Base.TheVariants.{U8}
use Rattle.fb_layout.specs.Laid.{LaidSchema, Slot, scalar_kind}
use Rattle.fb_value.specs.Datum.{Datum, a_member, a_number}
use Rattle.fb_value.specs.UpTo.{at_most_usize}
use Rattle.fb_tape.specs.NamedParts.{NamedPart}
use Rattle.fb_tape.specs.OpenFields.{OpenField, IsOpenIf, IsInlineField, AreOpen, reference_field}
use Rattle.fb_tape.specs.Tapes.{Taped, Waits}
use Rattle.fb_build.specs.Fields.{is_stored}

-- Parts wait after those that waited, and take so much room.
pub record AddsParts (a b : Taped) (parts : List NamedPart) (room : ℕ) : Type 0 where
  pub waits : (others : List NamedPart) → Waits a others → Waits b (others ++ parts)
  pub sum : at_most_usize b.room ≡ at_most_usize (a.room + room)
  pub layout : b.layout ≡ a.layout
  pub whole : b.unfinished ≡ []

-- The fields that the entry of slot k adds: a union's value comes with its code, which is in the slot before.
abbrev pub AreFieldsOf : LaidSchema → ℕ → Slot → Option Datum → List OpenField → Type 0
AreFieldsOf L k f (Some (a_member c d)) own = (code : OpenField) × (own ≡ code ∷ reference_field k ∷ [])
    × IsInlineField L (k - 1) (scalar_kind U8) (a_number (pos c)) code
AreFieldsOf L k f x own = IsOpenIf (is_stored f x) L k f x own (λ behind. behind ≡ [])

abbrev pub AddsFields : LaidSchema → ℕ → Slot → Option Datum → List OpenField → List OpenField → Type 0
AddsFields L k f x a b = (own : List OpenField) × (b ≡ a ++ own) × AreFieldsOf L k f x own

-- The fields of all slots that are stored.
abbrev pub AddsSlots : LaidSchema → List Slot → List (Option Datum) → List OpenField → List OpenField → Type 0
AddsSlots L fs xs a b = (own : List OpenField) × (b ≡ a ++ own) × AreOpen L 0 fs xs own
