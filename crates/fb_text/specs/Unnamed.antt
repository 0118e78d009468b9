-- The first union, in the order of printing, whose code names no member.
-- From the FlatBuffers documentation, "Evolution": a reader may know fewer members of a union than a writer.
use Rattle.std.specs.Prelude.{ℕ, zero, min, ◌+◌, ◌≡◌, Bool, true, false, Option, None, Some}
use Rattle.std.specs.Option.{option_or}
use Rattle.fb_schema.specs.declared.kinds.Kind.TheVariants.{Table, Union}
use Rattle.fb_schema.specs.declared.kinds.Shape.{Shape}
use Rattle.fb_schema.specs.declared.kinds.Shape.TheVariants.{One, Many}
use Rattle.fb_value.specs.Datum.{Datum, a_number, a_text, a_vector, a_struct, a_table, a_member, an_unknown, Parts}
use Rattle.fb_value.specs.Datum.{no_parts, more_parts, SlotEntries, no_entries, absent_entry, present_entry}
use Rattle.fb_value.specs.Counts.{is_whole}
use Rattle.fb_value.specs.Nth.{nth_entry, nth_part}
use Rattle.fb_read.specs.Tails.{entries_from, parts_from}
use Rattle.fb_json.specs.declared.faults.Place.{Place}
use Rattle.fb_text.specs.declared.faults.TextFault.{TextFault}
use Rattle.fb_text.specs.declared.faults.TextFault.TheVariants.{NoMemberName, Memory}
use Rattle.fb_json.specs.Meant.{slot_place}

-- the slot of a table; a value that fits no type may have more entries than there are numbers of slots
abbrev pub entry_place : ℕ → ℕ → Place
entry_place type k = slot_place type (min k 65535)

-- its place: the table that holds it and its slot
abbrev mutual
  pub first_unnamed : Place → Datum → Option Place
  first_unnamed at (a_number n) = None
  first_unnamed at (a_text bytes) = None
  first_unnamed at (a_vector ds) = first_in_parts at ds
  first_unnamed at (a_struct ds) = first_in_parts at ds
  first_unnamed at (a_table type es) = first_in_entries type 0 es
  first_unnamed at (a_member c d) = first_unnamed at d
  first_unnamed at (an_unknown c) = Some at

  pub first_in_parts : Place → Parts → Option Place
  first_in_parts at no_parts = None
  first_in_parts at (more_parts d ds) = option_or (first_unnamed at d) (first_in_parts at ds)

  pub first_in_entries : ℕ → ℕ → SlotEntries → Option Place
  first_in_entries type k no_entries = None
  first_in_entries type k (absent_entry es) = first_in_entries type (k + 1) es
  first_in_entries type k (present_entry d es) =
      option_or (first_unnamed (entry_place type k) d) (first_in_entries type (k + 1) es)

-- ---- what is in a value: the entries of a table, the elements of a vector, the fields of a struct, the table of a
-- member

abbrev pub nth_child : Option Datum → ℕ → Option Datum
nth_child (Some (a_vector ds)) i = nth_part ds i
nth_child (Some (a_struct ds)) i = nth_part ds i
nth_child (Some (a_table type es)) i = nth_entry es i
nth_child (Some (a_member c d)) zero = Some d
nth_child _ i = None

abbrev pub child_place : Place → Option Datum → ℕ → Place
child_place at (Some (a_table type es)) i = entry_place type i
child_place at _ i = at

-- the first such union from child i on
abbrev pub unnamed_from : Place → Option Datum → ℕ → Option Place
unnamed_from at (Some (a_vector ds)) i = first_in_parts at (parts_from i ds)
unnamed_from at (Some (a_struct ds)) i = first_in_parts at (parts_from i ds)
unnamed_from at (Some (a_table type es)) i = first_in_entries type i (entries_from i es)
unnamed_from at (Some (a_member c d)) zero = first_unnamed at d
unnamed_from at _ i = None

-- what is stored under a shape: tables and unions may have such a union in them, and vectors of tables
abbrev pub may_have_unions : Shape → Bool
may_have_unions (One (Table t)) = true
may_have_unions (One (Union u)) = true
may_have_unions (Many (Table t)) = true
may_have_unions _ = false

-- A value with such a union is refused, with its place. Memory is told only of a value without.
abbrev pub IsRefused : Place → Datum → TextFault → Type 0
IsRefused root d (NoMemberName at) = (is_whole d ≡ false) × (first_unnamed root d ≡ Some at)
IsRefused root d Memory = is_whole d ≡ true
