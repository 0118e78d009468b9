-- What a reference to a `Value` stands for, and how much is in it.
use Rattle.std.specs.Prelude.{ℕ, suc, ◌+◌, Option, None, Some, option_map}
use Rattle.fb_value.specs.Datum.{Datum, a_vector, a_struct, a_table, a_member, Parts}
use Rattle.fb_value.specs.Datum.{no_parts, more_parts, SlotEntries, no_entries, absent_entry, present_entry, count}
use Rattle.fb_value.specs.View.{view}
use Rattle.fb_owned.specs.declared.shown_values.ValueEntry.{ValueEntry}

abbrev mutual
  pub size : Datum → ℕ
  size (a_vector ds) = suc (parts_size ds)
  size (a_struct ds) = suc (parts_size ds)
  size (a_table type es) = suc (entries_size es)
  size (a_member code d) = suc (size d)
  size _ = 1

  pub parts_size : Parts → ℕ
  parts_size no_parts = 0
  parts_size (more_parts d ds) = size d + parts_size ds

  pub entries_size : SlotEntries → ℕ
  entries_size no_entries = 0
  entries_size (absent_entry es) = entries_size es
  entries_size (present_entry d es) = size d + entries_size es

abbrev pub size_in : Option Datum → ℕ
size_in None = 0
size_in (Some d) = size d

-- how many elements a vector has
abbrev pub count_in : Option Datum → ℕ
count_in (Some (a_vector ds)) = count ds
count_in _ = 0

-- the datum that a reference to a `Value` stands for
abbrev pub datum_of : ValueEntry → Option Datum
datum_of e = option_map (λ v. view v.now) e.0
