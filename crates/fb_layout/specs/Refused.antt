-- The rules on the sizes of types, and the first that fails.
-- From the FlatBuffers documentation, "FlatBuffer Internals": sizes in a vtable and of a struct have 16 bits.
use Rattle.std.specs.Prelude.{ℕ, ◌≡◌, ◌<◌, ◌≤◌, ◌⊎◌, length}
use Rattle.fb_schema.specs.Schema.{DeclaredSchema}
use Rattle.fb_layout.specs.declared.faults.LayoutFault.{LayoutFault}
use Rattle.fb_layout.specs.declared.faults.LayoutFault.TheVariants.{StructTooBig, TableTooWide, Memory}
use Rattle.fb_layout.specs.Laid.{LaidSchema, struct_at, slots_of}
use Rattle.fb_layout.specs.Widths.{widest}
use Rattle.fb_layout.specs.WellMade.{IsSized}

-- A type fails the rule that a fault names.
abbrev pub Fails : LaidSchema → LayoutFault → Type 0
Fails L (StructTooBig s) = 65535 < (struct_at L s.0).size
Fails L (TableTooWide t) = (65535 < widest L t.0) ⊎ (32765 < length (slots_of L t.0))
Fails L Memory = ⊥

-- the number of the type that a fault names
abbrev pub type_number : LayoutFault → ℕ
type_number (StructTooBig s) = s.0
type_number (TableTooWide t) = t.0
type_number Memory = 0

-- With the sizes that its types have, however great, a type fails a rule, and none of a lower number does.
pub record Refuses (S : DeclaredSchema) (fault : LayoutFault) : Type 0 where
  pub layout : LaidSchema
  pub schema : layout.schema ≡ S
  pub sized : IsSized layout
  pub fails : Fails layout fault
  pub first : (other : LayoutFault) → Fails layout other → type_number fault ≤ type_number other
