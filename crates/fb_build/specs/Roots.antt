-- A root table that is laid, before the reference to it is.
use Rattle.std.specs.Prelude.{ℕ, ◌≡◌, ◌≤◌, List, length, take, drop}
use Rattle.fb_layout.specs.Laid.{LaidSchema}
use Rattle.fb_value.specs.Datum.{Datum}
use Rattle.fb_value.specs.Num.{Bytes}
use Rattle.fb_value.specs.Places.{table_part, part_place}
use Rattle.fb_build.specs.CoveredTails.{parts_in_tail}
use Rattle.fb_build.specs.Made.{IsMade}
use Rattle.fb_build.specs.Tails.{TailSeen, LaidInTail}

-- A value of the root table lies at an end-count, and the tail is made of its parts and of the vtables that are laid.
pub record IsRoot (L : LaidSchema) (o : TailSeen) (places : List ℕ) (e : ℕ) (d : Datum) : Type 0 where
  pub lies : LaidInTail L o.most o.bytes (part_place (table_part L.schema.root)) e d
  pub made : IsMade L o places (parts_in_tail L o.bytes (table_part L.schema.root) e d)

-- the identifier stands after the root's reference
abbrev pub IsIdentified : Bytes → Bytes → Type 0
IsIdentified b id = (8 ≤ length b) × (take 4 (drop 4 b) ≡ id)
