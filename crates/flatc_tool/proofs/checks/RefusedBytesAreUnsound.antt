-- What a refusal of a check excludes.
use Rattle.std.proofs.Common.{◌≡◌, List, ℕ, Bool, Option, None, Some, false}
use Rattle.fb_layout.specs.Laid.{LaidSchema}
use Rattle.fb_value.specs.declared.faults.ReadFault.{ReadFault}
use Rattle.fb_value.specs.Bounds.{Bounds}
use Rattle.fb_value.specs.Num.{Bytes}
use Rattle.fb_value.specs.Holds.{Refuses}
use Rattle.flatc_tool.specs.LayerLaws.{LayerLaws}
use Rattle.fb_declare.specs.SchemaTexts.{IsAccepted}
use Rattle.flatc_tool.specs.Checks.{IsSound}

-- what is sound has an accepted schema
pub accepted_of : (schema : List ℕ) (bytes : Option Bytes) (most : Bounds) (raw : Bool) → IsSound false schema bytes most raw
    → (L : LaidSchema) × IsAccepted schema L
accepted_of schema None most raw sound = sound
accepted_of schema (Some b) most raw sound = (sound.0, sound.1)

-- bytes with a fault hold no value
pub bytes_unsound : (laws : LayerLaws) (schema : List ℕ) (b : Bytes) (most : Bounds) (raw : Bool) (L : LaidSchema)
    (f : ReadFault) → IsAccepted schema L → Refuses L most raw b f → ¬ IsSound false schema (Some b) most raw
bytes_unsound laws schema b most raw L f accepted refused sound =
    let same = laws.one_layout schema sound.0 L sound.1 accepted in
    refused.1 sound.2 (rw (← same) sound.3)

-- and nothing is sound where these are the bytes
pub some_unsound : (laws : LayerLaws) (schema : List ℕ) (bytes : Option Bytes) (b : Bytes) (most : Bounds) (raw : Bool)
    (L : LaidSchema) (f : ReadFault) → bytes ≡ Some b → IsAccepted schema L → Refuses L most raw b f
    → ¬ IsSound false schema bytes most raw
some_unsound laws schema bytes b most raw L f is accepted refused sound =
    bytes_unsound laws schema b most raw L f accepted refused (rw is at sound)
