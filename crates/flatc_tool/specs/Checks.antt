-- What a check of a schema text, and of a buffer under it, answers.
use Rattle.std.specs.Prelude.{ℕ, List, Bool, Option, None, Some}
use Rattle.fb_layout.specs.Laid.{LaidSchema}
use Rattle.fb_value.specs.Bounds.{Bounds}
use Rattle.fb_value.specs.Datum.{Datum}
use Rattle.fb_value.specs.Num.{Bytes}
use Rattle.fb_value.specs.Holds.{HoldsFramed, RefusesFramed}
use Rattle.fb_declare.specs.SchemaTexts.{IsAccepted, IsRefused}
use Rattle.fb_faults.specs.declared.faults.ToolFault.{ToolFault}
use Rattle.fb_faults.specs.declared.faults.ToolFault.TheVariants.{Schema, Read}

-- The schema is accepted and, where there are bytes, a value lies in them, with a size prefix or without.
abbrev pub IsSound : Bool → List ℕ → Option Bytes → Bounds → Bool → Type 0
IsSound prefixed schema None most raw = (L : LaidSchema) × IsAccepted schema L
IsSound prefixed schema (Some b) most raw =
    (L : LaidSchema) × IsAccepted schema L × (v : Datum) × HoldsFramed prefixed L most raw b v

-- The refusal of the schema, else the least fault of the bytes, for which no memory is taken.
abbrev pub CheckRefused : Bool → List ℕ → Option Bytes → Bounds → Bool → ToolFault → Type 0
CheckRefused prefixed schema bytes most raw (Schema f) = IsRefused schema f
CheckRefused prefixed schema (Some b) most raw (Read f) =
    (L : LaidSchema) × IsAccepted schema L × RefusesFramed prefixed L most raw b f
CheckRefused prefixed schema bytes most raw _ = ⊥
