-- How many levels a value has.
use Rattle.std.specs.Prelude.{ℕ, suc, max}
use Rattle.fb_value.specs.Datum.{Datum, a_vector, a_struct, a_table, a_member, Parts}
use Rattle.fb_value.specs.Datum.{no_parts, more_parts, SlotEntries, no_entries, absent_entry, present_entry}

abbrev mutual
  pub height : Datum → ℕ
  height (a_vector ds) = suc (parts_height ds)
  height (a_struct ds) = suc (parts_height ds)
  height (a_table type ss) = suc (entries_height ss)
  height (a_member c d) = suc (height d)
  height _ = 1

  pub parts_height : Parts → ℕ
  parts_height no_parts = 0
  parts_height (more_parts d ds) = max (height d) (parts_height ds)

  pub entries_height : SlotEntries → ℕ
  entries_height no_entries = 0
  entries_height (absent_entry ss) = entries_height ss
  entries_height (present_entry d ss) = max (height d) (entries_height ss)
