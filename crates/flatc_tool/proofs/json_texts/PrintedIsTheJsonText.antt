-- What the layers of printing say together.
use Rattle.std.proofs.Common.{◌≡◌, ℕ, ◌<◌, List, Bool, true, Option, Result, Ok, Err, All, refl, ap}
use Rattle.fb_layout.specs.Laid.{LaidSchema}
use Rattle.fb_layout.specs.WellMade.{IsWellMade}
use Rattle.fb_value.specs.Bounds.{Bounds}
use Rattle.fb_value.specs.Counts.{is_whole}
use Rattle.fb_value.specs.Datum.{Datum}
use Rattle.fb_value.specs.Num.{Bytes}
use Rattle.fb_value.specs.declared.faults.ReadFault.{ReadFault}
use Rattle.fb_value.specs.Holds.{HoldsFramed, RefusesFramed}
use Rattle.fb_json.specs.Meant.{type_place}
use Rattle.fb_text.specs.Texts.{spaced_text}
use Rattle.fb_text.specs.declared.indents.Spacing.{Spacing}
use Rattle.fb_text.specs.Laws.{SpacedTextsAreUtf8}
use Rattle.fb_text.specs.declared.faults.WriteFault.{WriteFault}
use Rattle.fb_text.specs.declared.faults.WriteFault.TheVariants.{NoMemberName, WriteFailed}
use Rattle.fb_text.specs.Printed.{IsPrinted}
use Rattle.flatc_tool.specs.LayerLaws.{LayerLaws}
use Rattle.flatc_tool.specs.Jobs.{IsText, MayBeText, TextRefused, spacing_of}
use Rattle.flatc_tool.specs.Prints.{IsSent, PrintRefused, IsOfInput, text_fault}
use Rattle.fb_faults.specs.declared.faults.ToolFault.{ToolFault}
use Rattle.fb_faults.specs.declared.faults.ToolFault.TheVariants.{Schema, Json, Build, Read, Text, Write, Breach}
use Rattle.fb_faults.specs.declared.faults.ToolFault.TheVariants.{NameMoved}
use Rattle.fb_faults.specs.declared.faults.ToolFault.TheVariants.{Older, Newer, FileRead, FileWrite, FileTooLong}
use Rattle.fb_faults.specs.declared.faults.ToolFault.TheVariants.{BadJson, Memory}

-- what a view under layout K and with a root table says is said of the accepted layout
pub at_layout : (spacing : Spacing) (L K : LaidSchema) (table : ℕ) (defaults : Bool) (v : Datum) (start known : Option
    (List ℕ))
    (r : Result (Unit {0}) WriteFault) → K ≡ L → table ≡ L.schema.root
    → IsPrinted (type_place table) v (spaced_text spacing K defaults v) start known r
    → IsPrinted (type_place L.schema.root) v (spaced_text spacing L defaults v) start known r
at_layout spacing L K table defaults v start known r layout root printed =
    let here = rw root at printed in
    rw layout at here

module _ (laws : LayerLaws) (compact prefixed : Bool) (b : Bytes) (most : Bounds) (raw defaults : Bool) (L : LaidSchema)
    (v : Datum) (holds : HoldsFramed prefixed L most raw b v) (start known : Option (List ℕ)) where
  text_is : is_whole v ≡ true → IsText compact prefixed L b most raw defaults (spaced_text (spacing_of compact) L
      defaults v)
  text_is whole = record { value = v; holds = holds; whole = whole; spelled = refl }

  pub sent : (x : Unit {0}) → IsWellMade L → SpacedTextsAreUtf8 L → All (λ x. x < 256) b
      → IsPrinted (type_place L.schema.root) v (spaced_text (spacing_of compact) L defaults v) start known (Ok x)
      → IsSent compact prefixed L b most raw defaults start known
  sent x made utf8 small printed =
      let fits = laws.fits_where_held _ _ L most b v made small holds in (
        spaced_text (spacing_of compact) L defaults v,
        text_is printed.0,
        utf8 (spacing_of compact) defaults v fits,
        printed.1,
      )

  pub unsent : (f : WriteFault)
      → IsPrinted {A = Unit {0}} (type_place L.schema.root) v (spaced_text (spacing_of compact) L defaults v) start
      known (Err f)
      → PrintRefused compact prefixed L b most raw defaults start known (Write f)
  unsent (NoMemberName at) printed = (v, holds, printed)
  unsent (WriteFailed n) printed =
      (spaced_text (spacing_of compact) L defaults v, text_is printed.0, printed.1, printed.2, printed.3, printed.4)

  pub unsent_excludes : (f : WriteFault)
      → IsPrinted {A = Unit {0}} (type_place L.schema.root) v (spaced_text (spacing_of compact) L defaults v) start
      known (Err f)
      → IsOfInput (Write f) → MayBeText prefixed L b most raw → ⊥
  unsent_excludes (WriteFailed n) printed rule may = rule
  unsent_excludes (NoMemberName at) printed rule may =
      let same = laws.one_value _ _ L most b may.value v may.holds holds in
      let whole = may.whole in
      let told = printed.0 in
      let is : is_whole may.value ≡ is_whole v = ap is_whole same in
      cc

-- ---- printing to memory

module _ (compact prefixed : Bool) (L : LaidSchema) (b : Bytes) (most : Bounds) (raw defaults : Bool) (start known :
    Option (List ℕ)) where
  pub text_refused : (f : ToolFault) → PrintRefused compact prefixed L b most raw defaults start known f
      → TextRefused prefixed L b most raw (text_fault f)
  text_refused (Read f) refused = refused
  text_refused (Write (NoMemberName at)) refused = refused
  text_refused (Write (WriteFailed n)) refused =
      let text = refused.1 in
      (text.value, text.holds, text.whole)
  text_refused (Schema f) refused = absurd refused
  text_refused (Json f) refused = absurd refused
  text_refused (Build f) refused = absurd refused
  text_refused (Text f) refused = absurd refused
  text_refused (Breach b) refused = absurd refused
  text_refused (NameMoved m) refused = absurd refused
  text_refused (Older f) refused = absurd refused
  text_refused (Newer f) refused = absurd refused
  text_refused FileRead refused = absurd refused
  text_refused FileWrite refused = absurd refused
  text_refused FileTooLong refused = absurd refused
  text_refused BadJson refused = absurd refused
  text_refused Memory refused = absurd refused

-- bytes with a fault hold no value, so that they have no text
pub bytes_exclude : (prefixed : Bool) (L : LaidSchema) (b : Bytes) (most : Bounds) (raw : Bool) (f : ReadFault)
    → RefusesFramed prefixed L most raw b f
    → MayBeText prefixed L b most raw → ⊥
bytes_exclude prefixed L b most raw f refuses may = refuses.1 may.value may.holds
