-- What a comparison of two schema texts answers.
-- From the FlatBuffers documentation, "Using the schema compiler": `--conform`.
use Rattle.std.specs.Prelude.{ℕ, List}
use Rattle.fb_layout.specs.Laid.{LaidSchema}
use Rattle.fb_conform.specs.Conforms.{Conforms}
use Rattle.fb_conform.specs.Order.{IsFirst}
use Rattle.fb_conform.specs.Names.{KeepsNames, IsFirstMoved}
use Rattle.fb_declare.specs.SchemaTexts.{IsAccepted, IsRefused}
use Rattle.fb_faults.specs.declared.faults.ToolFault.{ToolFault}
use Rattle.fb_faults.specs.declared.faults.ToolFault.TheVariants.{Breach, NameMoved, Older, Newer, Memory}

-- Both schemas are accepted, and the new one conforms to the old one.
abbrev pub TextsConform : List ℕ → List ℕ → Type 0
TextsConform old new = (A : LaidSchema) × (B : LaidSchema) × IsAccepted old A × IsAccepted new B × Conforms A B

-- The refusal of the old schema, else that of the new one, else the first breach.
abbrev pub ConformRefused : List ℕ → List ℕ → ToolFault → Type 0
ConformRefused old new (Older f) = IsRefused old f
ConformRefused old new (Newer f) = (A : LaidSchema) × IsAccepted old A × IsRefused new f
ConformRefused old new (Breach b) = (A : LaidSchema) × (B : LaidSchema) × IsAccepted old A × IsAccepted new B
    × IsFirst A B b
ConformRefused old new _ = ⊥

-- It conforms, and the names that it keeps stand for what they stood for.
abbrev pub TextsKeepNames : List ℕ → List ℕ → Type 0
TextsKeepNames old new = (A : LaidSchema) × (B : LaidSchema) × IsAccepted old A × IsAccepted new B × Conforms A B
    × KeepsNames A B

-- The refusal of the comparison, else the first name that is moved. Memory is asked for where the new schema conforms.
abbrev pub NamesRefused : List ℕ → List ℕ → ToolFault → Type 0
NamesRefused old new (NameMoved m) = (A : LaidSchema) × (B : LaidSchema) × IsAccepted old A × IsAccepted new B
    × Conforms A B × IsFirstMoved A B m
NamesRefused old new Memory = TextsConform old new
NamesRefused old new f = ConformRefused old new f
