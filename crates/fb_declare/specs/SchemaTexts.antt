-- What a schema text gives as a whole, and which layer refuses it.
use Rattle.std.specs.Prelude.{◌≡◌, ◌≢◌, List, length, ℕ, Some, IsUtf8}
use Rattle.std.specs.Str.Lossy.{utf8_valid_len}
use Rattle.fb_syntax.specs.DeclsRead.{DeclsRead}
use Rattle.fb_syntax.specs.Parsed.{Parses}
use Rattle.fb_syntax.specs.Refusals.{IsToldOfNoTokens, IsToldOfTokens, StandsWithin}
use Rattle.fb_syntax.specs.declared.faults.SyntaxFault.{SyntaxFault}
use Rattle.fb_syntax.specs.declared.faults.SyntaxFault.TheVariants as syntax_faults
use Rattle.fb_schema.specs.Schema.{DeclaredSchema}
use Rattle.fb_declare.specs.Declares.{Declares}
use Rattle.fb_declare.specs.TypeFaults.{faults_of}
use Rattle.fb_declare.specs.Faults.{least_of}
use Rattle.fb_declare.specs.declared.faults.SchemaFault.TheVariants as schema_faults
use Rattle.fb_layout.specs.Laid.{LaidSchema}
use Rattle.fb_layout.specs.WellMade.{IsWellMade}
use Rattle.fb_layout.specs.Refused.{Refuses}
use Rattle.fb_layout.specs.declared.faults.LayoutFault.TheVariants as layout_faults
use Rattle.fb_declare.specs.declared.schema_layouts.SchemaTextFault.{SchemaTextFault}
use Rattle.fb_declare.specs.declared.schema_layouts.SchemaTextFault.TheVariants.{Syntax, Schema, Layout}

-- The text reads as declarations, these declare the schema, and the layout is that schema's.
pub record IsAccepted (text : List ℕ) (L : LaidSchema) : Type 0 where
  pub decls : DeclsRead
  pub parsed : Parses text decls
  pub declared : Declares decls L.schema
  pub made : IsWellMade L

-- The text has a layout, and this holds of it.
pub record OfLayout (text : List ℕ) (P : LaidSchema → Type 0) : Type 0 where
  pub layout : LaidSchema
  pub accepted : IsAccepted text layout
  pub has : P layout

-- What a refusal by tokens or grammar says: whether the bytes are UTF-8 is checked first.
abbrev pub IsSyntaxRefused : List ℕ → SyntaxFault → Type 0
IsSyntaxRefused text (syntax_faults.NotUtf8 at) = (¬ (IsUtf8 text)) × (at ≡ utf8_valid_len text)
IsSyntaxRefused text syntax_faults.Memory = IsUtf8 text
IsSyntaxRefused text f = IsUtf8 text × IsToldOfNoTokens text f × IsToldOfTokens text f × StandsWithin (length text) f
    × ((d : DeclsRead) → ¬ (Parses text d))

-- The first layer that refuses: the layers before it have passed. Of the faults of declarations the least is told.
abbrev pub IsRefused : List ℕ → SchemaTextFault → Type 0
IsRefused text (Syntax f) = IsSyntaxRefused text f
IsRefused text (Schema f) = (d : DeclsRead) × Parses text d
    × (f ≢ schema_faults.Memory → least_of (faults_of d) ≡ Some f)
IsRefused text (Layout f) = (d : DeclsRead) × (S : DeclaredSchema) × Parses text d × Declares d S
    × (f ≢ layout_faults.Memory → Refuses S f)

-- one of the layers ran out of memory
abbrev pub IsWant : SchemaTextFault → Type 0
IsWant (Syntax f) = f ≡ syntax_faults.Memory
IsWant (Schema f) = f ≡ schema_faults.Memory
IsWant (Layout f) = f ≡ layout_faults.Memory
