-- A tape on which a value of the root table is noted.
use Rattle.std.specs.Prelude.{◌≡◌, List, Option}
use Rattle.fb_layout.specs.Laid.{LaidSchema, one_of, table_kind}
use Rattle.fb_value.specs.Datum.{Datum, a_table}
use Rattle.fb_value.specs.Room.{room}
use Rattle.fb_value.specs.UpTo.{at_most_usize}
use Rattle.fb_value.specs.View.{entries_in}
use Rattle.fb_tape.specs.Tapes.{MeansRoot, Taped}

-- The value is the root's table of some entries, which the tape means, and its room is summed up.
pub record NotesRoot (L : LaidSchema) (t : Taped) (value : Datum) : Type 0 where
  pub entries : List (Option Datum)
  pub layout : t.layout ≡ L
  pub value_is : value ≡ a_table L.schema.root (entries_in entries)
  pub means : MeansRoot t entries
  pub sum : at_most_usize t.room ≡ at_most_usize (room L (one_of (table_kind L.schema.root)) value)
