-- What a visit of a part takes, so that a part that is reached again needs no visit.
-- From the FlatBuffers documentation, "FlatBuffer Internals": an offset may lead to a part that another one leads to.
use Rattle.std.specs.Prelude.{ℕ, ◌+◌, ◌≡◌, ◌≤◌, Ok}
use Rattle.fb_layout.specs.Laid.{LaidSchema, stored_kind}
use Rattle.fb_value.specs.Places.{Target, table_part, text_part, vector_part, part_place, Place}
use Rattle.fb_read.specs.declared.part.Part.{Part}
use Rattle.fb_read.specs.declared.part.Part.TheVariants.{Text, Table, Vector}
use Rattle.fb_read.specs.declared.buffer.Buffer.{Buffer}
use Rattle.fb_read.specs.declared.visited.Visited.{Visited}
use Rattle.fb_read.specs.declared.walk.Mark.{Mark}
use Rattle.fb_read.specs.declared.walk.Walk.{Walk}
use Rattle.fb_read.specs.Ends.{parts_in}
use Rattle.fb_read.specs.Walks.{visit_in}

-- what a part is a target for
abbrev pub target_in : LaidSchema → Part → Target
target_in L Text = text_part
target_in L (Table table) = table_part table.0
target_in L (Vector kind) = vector_part (stored_kind L.schema kind)

abbrev pub part_at : Buffer → Part → ℕ → Place
part_at buffer part p = record { sort = part_place (target_in buffer.layout.now part); at = p }

-- The parts that a visit of a place enters; they are at most its cells.
pub record IsCounted (buffer : Buffer) (x : Place) (visited : Visited) : Type 0 where
  pub few : visited.parts ≤ visited.cells
  pub exact : visited.parts ≡ parts_in buffer x

-- A visit of a place, with so many tables above it and cells spent before it, finds no fault and takes so many cells.
pub record Takes (buffer : Buffer) (x : Place) (tables spent : ℕ) (visited : Visited) : Type 0 where
  pub visit : visit_in buffer x tables spent ≡ Ok (spent + visited.cells)
  pub few : spent + visited.cells ≤ buffer.most_cells
  pub counted : IsCounted buffer x visited

-- A walk has visited a place since a mark, and found no fault.
pub record HasVisited {H : Type 0} (knows : H → Buffer → Type 0) (buffer : Buffer) (x : Place) (tables : ℕ)
    (mark : Mark) (walk : Walk H) : Type 0 where
  pub known : knows walk.hearer buffer
  pub visit : visit_in buffer x tables mark.spent ≡ Ok walk.spent
  pub ticks : walk.ticks + mark.spent ≤ mark.parts + walk.spent
  pub exact : walk.ticks ≡ mark.parts + parts_in buffer x

-- So does each visit with at most as many tables above it, where its cells are within the limit.
pub record IsVisited (buffer : Buffer) (x : Place) (visited : Visited) : Type 0 where
  pub visit : (tables spent : ℕ) → tables ≤ visited.tables → spent + visited.cells ≤ buffer.most_cells
      → visit_in buffer x tables spent ≡ Ok (spent + visited.cells)
  pub counted : IsCounted buffer x visited
