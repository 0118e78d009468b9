-- The faults of a schema text: number, name, offset and type, each that of the layer that refuses.
use Rattle.std.specs.Prelude.{ℕ, List, Option, None, option_map}
use Rattle.fb_syntax.specs.FaultTable as syntax_faults
use Rattle.fb_schema.specs.declared.kinds.TypeId.{TypeId}
use Rattle.fb_declare.specs.FaultTable as schema_faults
use Rattle.fb_layout.specs.FaultTable as layout_faults
use Rattle.fb_declare.specs.declared.schema_layouts.SchemaTextFault.{SchemaTextFault}
use Rattle.fb_declare.specs.declared.schema_layouts.SchemaTextFault.TheVariants.{Syntax, Schema, Layout}

abbrev pub row_of : SchemaTextFault → ℕ × List ℕ
row_of (Syntax f) = syntax_faults.row_of f
row_of (Schema f) = schema_faults.row_of f
row_of (Layout f) = layout_faults.row_of f

abbrev pub number_of : SchemaTextFault → ℕ
number_of f = (row_of f).0

abbrev pub name_of : SchemaTextFault → List ℕ
name_of f = (row_of f).1

abbrev pub offset_of : SchemaTextFault → Option ℕ
offset_of (Syntax f) = syntax_faults.offset_of f
offset_of (Schema f) = schema_faults.offset_of f
offset_of (Layout f) = None

-- the number of the type that it is in, if it has such a place
abbrev pub owner_of : SchemaTextFault → Option ℕ
owner_of (Layout f) = option_map (λ (t : TypeId). t.0) (layout_faults.type_of f)
owner_of _ = None
