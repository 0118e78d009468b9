-- Cells, tables, vectors and texts, depth and nesting of a value, and whether it is whole.
-- From the FlatBuffers documentation, "Verification": the depth of tables is bounded. Cells are this project's own
-- measure.
use Rattle.std.specs.Prelude.{ℕ, suc, ◌+◌, max, Bool, true, false, ◌&&◌}
use Rattle.fb_value.specs.Datum.{Datum, Parts, SlotEntries}
use Rattle.fb_value.specs.Fold.{Measure, fold, parts_fold, entries_fold}

-- One for each table, text and vector, one for each byte of a text and for each element of a vector.
abbrev pub cell_measure : Measure ℕ
cell_measure = record {
  nothing = 0;
  text = λ bytes. 1 + bytes;
  vector = λ elements within. (1 + elements) + within;
  struct = λ within. within;
  table = λ within. 1 + within;
  member = λ within. within;
  unknown = 0;
  join = λ first rest. first + rest;
}

abbrev pub cells : Datum → ℕ
cells d = fold cell_measure d

abbrev pub parts_cells : Parts → ℕ
parts_cells ds = parts_fold cell_measure ds

abbrev pub entries_cells : SlotEntries → ℕ
entries_cells es = entries_fold cell_measure es

-- Its tables, vectors and texts, each as often as it stands there.
abbrev pub entered_measure : Measure ℕ
entered_measure = record {
  nothing = 0;
  text = λ bytes. 1;
  vector = λ elements within. 1 + within;
  struct = λ within. within;
  table = λ within. 1 + within;
  member = λ within. within;
  unknown = 0;
  join = λ first rest. first + rest;
}

abbrev pub entered : Datum → ℕ
entered d = fold entered_measure d

abbrev pub parts_entered : Parts → ℕ
parts_entered ds = parts_fold entered_measure ds

abbrev pub entries_entered : SlotEntries → ℕ
entries_entered es = entries_fold entered_measure es

-- The number of tables on the longest way, the outermost counted.
abbrev pub depth_measure : Measure ℕ
depth_measure = record {
  nothing = 0;
  text = λ bytes. 0;
  vector = λ elements within. within;
  struct = λ within. within;
  table = λ within. suc within;
  member = λ within. within;
  unknown = 0;
  join = λ first rest. max first rest;
}

abbrev pub depth : Datum → ℕ
depth d = fold depth_measure d

abbrev pub parts_depth : Parts → ℕ
parts_depth ds = parts_fold depth_measure ds

abbrev pub entries_depth : SlotEntries → ℕ
entries_depth es = entries_fold depth_measure es

-- Tables, vectors and union members on the longest way, and a struct as one level whatever structs stand in it: beside
-- what a part takes, what it takes inside a struct, where a struct has no level of its own.
abbrev pub nesting_measure : Measure (ℕ × ℕ)
nesting_measure = record {
  nothing = (0, 0);
  text = λ bytes. (0, 0);
  vector = λ elements within. (suc within.0, suc within.0);
  struct = λ within. (suc within.1, within.1);
  table = λ within. (suc within.0, suc within.0);
  member = λ within. (suc within.0, suc within.0);
  unknown = (0, 0);
  join = λ first rest. (max first.0 rest.0, max first.1 rest.1);
}

abbrev pub nesting : Datum → ℕ
nesting d = (fold nesting_measure d).0

abbrev pub parts_nesting : Parts → ℕ
parts_nesting ds = (parts_fold nesting_measure ds).0

abbrev pub struct_nesting : Parts → ℕ
struct_nesting ds = (parts_fold nesting_measure ds).1

abbrev pub entries_nesting : SlotEntries → ℕ
entries_nesting es = (entries_fold nesting_measure es).0

-- Whether it has no code that its schema doesn't know.
abbrev pub whole_measure : Measure Bool
whole_measure = record {
  nothing = true;
  text = λ bytes. true;
  vector = λ elements within. within;
  struct = λ within. within;
  table = λ within. within;
  member = λ within. within;
  unknown = false;
  join = λ first rest. first && rest;
}

abbrev pub is_whole : Datum → Bool
is_whole d = fold whole_measure d

abbrev pub parts_whole : Parts → Bool
parts_whole ds = parts_fold whole_measure ds

abbrev pub entries_whole : SlotEntries → Bool
entries_whole es = entries_fold whole_measure es
