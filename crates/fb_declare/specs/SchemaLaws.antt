-- The laws of schema texts, and those of the layers that read one: each is a public law of the layer's crate.
use Rattle.std.specs.Prelude.{◌≡◌, List, ℕ}
use Rattle.fb_syntax.specs.DeclsRead.{DeclsRead}
use Rattle.fb_syntax.specs.OneReading.{OneReading}
use Rattle.fb_syntax.specs.Spells.{OneSpelling}
use Rattle.fb_schema.specs.Schema.{DeclaredSchema}
use Rattle.fb_declare.specs.Declares.{Declares}
use Rattle.fb_declare.specs.SchemaTexts.{IsAccepted, IsRefused, IsWant}
use Rattle.fb_declare.specs.declared.schema_layouts.SchemaTextFault.{SchemaTextFault}
use Rattle.fb_layout.specs.Laid.{LaidSchema}
use Rattle.fb_layout.specs.OneLayout.{OneLayout, NoLayoutWhereRefused}

pub record SchemaLaws : Type 0 where
  pub one_spelling : OneSpelling
  pub one_reading : OneReading
  pub one_schema : (d : DeclsRead) (S T : DeclaredSchema) → Declares d S → Declares d T → S ≡ T
  pub one_layout : OneLayout
  pub no_layout : NoLayoutWhereRefused

-- A schema text has one layout at most.
abbrev pub TextHasOneLayout : Type 0
TextHasOneLayout = (text : List ℕ) (L K : LaidSchema) → IsAccepted text L → IsAccepted text K → L ≡ K

-- A text that a layer refuses has none, unless the layer ran out of memory.
abbrev pub RefusedTextHasNoLayout : Type 0
RefusedTextHasNoLayout = (text : List ℕ) (f : SchemaTextFault) → IsRefused text f → ¬ (IsWant f) → (L : LaidSchema)
    → ¬ (IsAccepted text L)
