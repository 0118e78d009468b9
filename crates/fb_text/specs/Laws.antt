-- Laws of printed texts.
use Rattle.std.specs.Prelude.{ℕ, Bool, IsUtf8}
use Rattle.fb_schema.specs.Schema.{DeclaredSchema, body_at}
use Rattle.fb_layout.specs.Laid.{LaidSchema}
use Rattle.fb_value.specs.Datum.{Datum}
use Rattle.fb_value.specs.Fits.{FitsRoot}
use Rattle.fb_text.specs.Names.{BodyUtf8}
use Rattle.fb_text.specs.Texts.{json_text, spaced_text}
use Rattle.fb_text.specs.declared.indents.Spacing.{Spacing}

-- The names of fields, values and members are UTF-8.
abbrev pub NamesAreUtf8 : DeclaredSchema → Type 0
NamesAreUtf8 S = (t : ℕ) → BodyUtf8 (body_at S t)

-- The text of a value that fits the root is UTF-8, however it is spaced.
abbrev pub SpacedTextsAreUtf8 : LaidSchema → Type 0
SpacedTextsAreUtf8 L = (spacing : Spacing) (defaults : Bool) (d : Datum) → FitsRoot L d
    → IsUtf8 (spaced_text spacing L defaults d)

-- The indented text of a value that fits the root is UTF-8.
abbrev pub TextsAreUtf8 : LaidSchema → Type 0
TextsAreUtf8 L = (defaults : Bool) (d : Datum) → FitsRoot L d → IsUtf8 (json_text L defaults d)
