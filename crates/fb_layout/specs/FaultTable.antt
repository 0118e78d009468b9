-- The faults of a layout: number, name and type. They have no place in the text.
use Rattle.std.specs.Prelude.{ℕ, List, Option, None, Some, codes}
use Rattle.fb_schema.specs.declared.kinds.TypeId.{TypeId}
use Rattle.fb_layout.specs.declared.faults.LayoutFault.{LayoutFault}
use Rattle.fb_layout.specs.declared.faults.LayoutFault.TheVariants.{StructTooBig, TableTooWide, Memory}

-- the number of the rule, which no other fault has, and the name of the variant
abbrev pub row_of : LayoutFault → ℕ × List ℕ
row_of (StructTooBig type) = (30, codes "StructTooBig")
row_of (TableTooWide type) = (31, codes "TableTooWide")
row_of Memory = (32, codes "Memory")

abbrev pub number_of : LayoutFault → ℕ
number_of f = (row_of f).0

abbrev pub name_of : LayoutFault → List ℕ
name_of f = (row_of f).1

-- the type that is too large
abbrev pub type_of : LayoutFault → Option TypeId
type_of (StructTooBig type) = Some type
type_of (TableTooWide type) = Some type
type_of Memory = None
