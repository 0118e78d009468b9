-- That a schema has one list of sizes at most, and none where it is refused.
use Rattle.std.specs.Prelude.{◌≡◌, List}
use Rattle.fb_schema.specs.Schema.{DeclaredSchema}
use Rattle.fb_schema.specs.WellDeclared.{IsDeclared}
use Rattle.fb_layout.specs.declared.faults.LayoutFault.{LayoutFault}
use Rattle.fb_layout.specs.Laid.{LaidSchema, StructLayout}
use Rattle.fb_layout.specs.Refused.{Refuses}
use Rattle.fb_layout.specs.WellMade.{IsSized, IsWellMade}

abbrev pub OneLayout : Type 0
OneLayout = (S : DeclaredSchema) (a b : List StructLayout) → IsDeclared S → IsSized (record { schema = S; structs = a })
    → IsSized (record { schema = S; structs = b }) → a ≡ b

-- A schema that is refused has no layout.
abbrev pub NoLayoutWhereRefused : Type 0
NoLayoutWhereRefused = (S : DeclaredSchema) (f : LayoutFault) → Refuses S f → (L : LaidSchema) → L.schema ≡ S
    → ¬ (IsWellMade L)
