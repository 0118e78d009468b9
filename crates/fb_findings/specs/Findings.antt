-- Where a finding is, and which fault a list of findings begins with.
use Rattle.std.specs.Prelude.{ℕ, ◌≡◌, Bool, true, false, if◌then◌else◌, List, [], ◌∷◌, Option, None, Some, IfSome}
use Rattle.std.specs.Option.{option_map_or}
use Rattle.fb_declare.specs.declared.schema_layouts.SchemaTextFault.{SchemaTextFault}
use Rattle.fb_declare.specs.declared.schema_layouts.SchemaTextFault.TheVariants as the_texts
use Rattle.fb_declare.specs.declared.faults.SchemaFault.TheVariants.{BadIds}
use Rattle.fb_faults.specs.FaultTable.{offset_of}
use Rattle.fb_faults.specs.declared.faults.ToolFault.{ToolFault}
use Rattle.fb_faults.specs.declared.faults.ToolFault.TheVariants.{Schema, Older, Newer}
use Rattle.fb_findings.specs.declared.finding.Finding.{Finding}
use Rattle.fb_findings.specs.declared.sources.Location.{Location}
use Rattle.fb_findings.specs.Positions.{IsPosition}

-- A table's ids are refused at the table; the finding is at the field that has a wrong one.
abbrev pub is_of_ids : SchemaTextFault → Bool
is_of_ids (the_texts.Schema (BadIds at)) = true
is_of_ids _ = false

-- the offset that a fault's finding is at, where the fault says it
abbrev pub own_offset : ToolFault → Option ℕ
own_offset (Schema f) = if is_of_ids f then None else offset_of (Schema f)
own_offset (Older f) = if is_of_ids f then None else offset_of (Older f)
own_offset (Newer f) = if is_of_ids f then None else offset_of (Newer f)
own_offset f = offset_of f

abbrev pub offset_in : Option Location → Option ℕ
offset_in place = option_map_or (λ (l : Location). l.offset) place None

-- a place's line and column are those of its offset in a text
abbrev pub IsLineOf : List ℕ → Location → Type 0
IsLineOf text l = IfSome l.position (λ p. (offset : ℕ) → l.offset ≡ Some offset → IsPosition text offset p)

-- The finding is where its fault is, in a text or buffer.
pub record IsPlacedIn (text : List ℕ) (f : Finding) : Type 0 where
  pub at : (offset : ℕ) → own_offset f.fault ≡ Some offset → offset_in f.place ≡ Some offset
  pub line : IfSome f.place (IsLineOf text)

-- the first of the findings is of a fault
abbrev pub BeginsWith : ToolFault → List Finding → Type 0
BeginsWith fault [] = ⊥
BeginsWith fault (f ∷ fs) = f.fault ≡ fault
