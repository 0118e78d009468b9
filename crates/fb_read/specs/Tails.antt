-- What is left of a table's entries and of a vector's elements.
use Rattle.std.specs.Prelude.{ℕ, zero, suc}
use Rattle.fb_value.specs.Datum.{Parts, no_parts, more_parts, SlotEntries}
use Rattle.fb_value.specs.Datum.{no_entries, absent_entry, present_entry}

-- the entries from slot k on
abbrev pub entries_from : ℕ → SlotEntries → SlotEntries
entries_from zero es = es
entries_from (suc k) no_entries = no_entries
entries_from (suc k) (absent_entry es) = entries_from k es
entries_from (suc k) (present_entry d es) = entries_from k es

-- the elements from i on
abbrev pub parts_from : ℕ → Parts → Parts
parts_from zero ds = ds
parts_from (suc i) no_parts = no_parts
parts_from (suc i) (more_parts d ds) = parts_from i ds
