-- How many bytes are surely enough for a value: this project's own measure, by which it refuses what is too big.
use Rattle.std.specs.Prelude.{ℕ, ◌+◌, ◌-◌, ◌*◌, max, List, ◌∷◌, length}
use Rattle.fb_layout.specs.Laid.{LaidSchema, Slot, StoredKind, table_kind, StoredShape, one_of, vector_of, slots_of}
use Rattle.fb_layout.specs.Laid.{size_of, align_of}
use Rattle.fb_layout.specs.Widths.{widest, table_align, greatest}
use Rattle.fb_value.specs.Datum.{Datum, a_text, a_vector, a_table, a_member, Parts, no_parts, more_parts, SlotEntries}
use Rattle.fb_value.specs.Datum.{absent_entry, present_entry, count}

-- a table and its vtable, without what the table's references name
abbrev pub table_room : LaidSchema → ℕ → ℕ
table_room L t = (table_align L t - 1) + (widest L t + (4 + 2 * length (slots_of L t)))

-- the count and the elements, without what these name
abbrev pub vector_room : LaidSchema → StoredKind → ℕ → ℕ
vector_room L kind n = (4 + n * size_of L kind) + (max 4 (align_of L kind) - 1)

-- What stands inline takes no room of its own: it is in its table's or vector's.
abbrev mutual
  pub room : LaidSchema → StoredShape → Datum → ℕ
  room L shape (a_text bytes) = length bytes + 8
  room L shape (a_table type es) = table_room L type + entries_room L (slots_of L type) es
  room L shape (a_member c d) = room L shape d
  room L (vector_of kind) (a_vector ds) = vector_room L kind (count ds) + parts_room L kind ds
  room L _ _ = 0

  pub parts_room : LaidSchema → StoredKind → Parts → ℕ
  parts_room L kind no_parts = 0
  parts_room L kind (more_parts d ds) = room L (one_of kind) d + parts_room L kind ds

  pub entries_room : LaidSchema → List Slot → SlotEntries → ℕ
  entries_room L (f ∷ fs) (absent_entry es) = entries_room L fs es
  entries_room L (f ∷ fs) (present_entry d es) = room L f.shape d + entries_room L fs es
  entries_room L _ _ = 0

-- the whole buffer of a value of the root table
abbrev pub room_of : LaidSchema → Datum → ℕ
room_of L d = (8 + (greatest L - 1)) + room L (one_of (table_kind L.schema.root)) d
