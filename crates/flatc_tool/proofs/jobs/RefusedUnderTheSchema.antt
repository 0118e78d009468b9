-- What is refused under the layout of a schema text is refused under that text.
use Rattle.std.proofs.Common.{List, ℕ, subst}
use Rattle.fb_layout.specs.Laid.{LaidSchema}
use Rattle.fb_declare.specs.SchemaLaws.{TextHasOneLayout}
use Rattle.fb_declare.specs.SchemaTexts.{IsAccepted, OfLayout}
use Rattle.fb_declare.specs.declared.schema_layouts.SchemaTextFault.{SchemaTextFault}
use Rattle.flatc_tool.specs.Jobs.{RefusedUnder}
use Rattle.fb_faults.specs.declared.faults.ToolFault.{ToolFault}
use Rattle.fb_faults.specs.declared.faults.ToolFault.TheVariants.{Schema, Json, Build, Read, Text, Write, Breach}
use Rattle.fb_faults.specs.declared.faults.ToolFault.TheVariants.{NameMoved}
use Rattle.fb_faults.specs.declared.faults.ToolFault.TheVariants.{Older, Newer, FileRead, FileWrite, FileTooLong}
use Rattle.fb_faults.specs.declared.faults.ToolFault.TheVariants.{BadJson, Memory}

-- what doesn't hold of a text's layout holds of no layout of it
pub none_of_layout : TextHasOneLayout → (schema : List ℕ) (L : LaidSchema) (P : LaidSchema → Type 0)
    → IsAccepted schema L → ¬ P L → ¬ OfLayout schema P
none_of_layout one schema L P accepted none other =
    none (subst P (one schema other.layout L other.accepted accepted) other.has)

-- a layout refuses nothing as a schema
pub refused_under : (schema : List ℕ) (R : LaidSchema → ToolFault → Type 0) (L : LaidSchema) → IsAccepted schema L
    → ((f : SchemaTextFault) → R L (Schema f) → ⊥) → (f : ToolFault) → R L f → RefusedUnder schema R f
refused_under schema R L accepted none (Schema f) has = absurd (none f has)
refused_under schema R L accepted none (Json f) has = record { layout = L; accepted = accepted; has = has }
refused_under schema R L accepted none (Build f) has = record { layout = L; accepted = accepted; has = has }
refused_under schema R L accepted none (Read f) has = record { layout = L; accepted = accepted; has = has }
refused_under schema R L accepted none (Text f) has = record { layout = L; accepted = accepted; has = has }
refused_under schema R L accepted none (Write f) has = record { layout = L; accepted = accepted; has = has }
refused_under schema R L accepted none (Breach b) has = record { layout = L; accepted = accepted; has = has }
refused_under schema R L accepted none (NameMoved m) has = record { layout = L; accepted = accepted; has = has }
refused_under schema R L accepted none (Older f) has = record { layout = L; accepted = accepted; has = has }
refused_under schema R L accepted none (Newer f) has = record { layout = L; accepted = accepted; has = has }
refused_under schema R L accepted none FileRead has = record { layout = L; accepted = accepted; has = has }
refused_under schema R L accepted none FileWrite has = record { layout = L; accepted = accepted; has = has }
refused_under schema R L accepted none FileTooLong has = record { layout = L; accepted = accepted; has = has }
refused_under schema R L accepted none BadJson has = record { layout = L; accepted = accepted; has = has }
refused_under schema R L accepted none Memory has = record { layout = L; accepted = accepted; has = has }
