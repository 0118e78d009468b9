-- What is measured of a value, part by part: the one recursion over values of which the counts are uses.
use Rattle.std.specs.Prelude.{ℕ, length}
use Rattle.fb_value.specs.Datum.{Datum, a_number, a_text, a_vector, a_struct, a_table, a_member, an_unknown, Parts}
use Rattle.fb_value.specs.Datum.{no_parts, more_parts, SlotEntries, no_entries, absent_entry, present_entry, count}

-- What each sort of datum gives, where `within` is what its parts give together.
pub record Measure (A : Type 0) : Type 0 where
  -- a number gives it, and where no part is left
  pub nothing : A
  -- a text of so many bytes
  pub text : ℕ → A
  -- a vector of so many elements
  pub vector : ℕ → A → A
  pub struct : A → A
  pub table : A → A
  pub member : A → A
  pub unknown : A
  -- one part and those after it
  pub join : A → A → A

abbrev mutual
  pub fold : {A : Type 0} → Measure A → Datum → A
  fold m (a_number n) = m.nothing
  fold m (a_text bytes) = m.text (length bytes)
  fold m (a_vector ds) = m.vector (count ds) (parts_fold m ds)
  fold m (a_struct ds) = m.struct (parts_fold m ds)
  fold m (a_table t es) = m.table (entries_fold m es)
  fold m (a_member c d) = m.member (fold m d)
  fold m (an_unknown c) = m.unknown

  pub parts_fold : {A : Type 0} → Measure A → Parts → A
  parts_fold m no_parts = m.nothing
  parts_fold m (more_parts d ds) = m.join (fold m d) (parts_fold m ds)

  pub entries_fold : {A : Type 0} → Measure A → SlotEntries → A
  entries_fold m no_entries = m.nothing
  entries_fold m (absent_entry es) = entries_fold m es
  entries_fold m (present_entry d es) = m.join (fold m d) (entries_fold m es)
