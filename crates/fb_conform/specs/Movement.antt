-- A value of one schema under another of the same line, whichever of them is the older one.
use Rattle.std.specs.Prelude.{ℕ, List, [], ◌∷◌, Bool, true, false}
use Rattle.fb_layout.specs.Laid.{Slot, StoredShape}
use Rattle.fb_value.specs.Datum.{Datum, a_number, a_text, a_vector, a_struct, a_table, a_member, an_unknown, Parts}
use Rattle.fb_value.specs.Datum.{no_parts, more_parts, SlotEntries, no_entries, absent_entry, present_entry}

-- What differs from one way to another.
pub record Movement : Type 0 where
  -- the number of a type there
  pub type : ℕ → ℕ
  -- the slots of a table there
  pub slots : ℕ → List Slot
  -- the entries of slots that aren't here
  pub added : List Slot → SlotEntries
  -- a slot that has no entry here, in front of the later ones
  pub absent : Slot → SlotEntries → SlotEntries
  -- what is known there of a value in a slot, once it is moved
  pub known : StoredShape → Datum → Datum → Datum

-- an entry is left out where its slot is deprecated
abbrev pub unless_gone : Bool → Datum → SlotEntries → SlotEntries
unless_gone true d ss = absent_entry ss
unless_gone false d ss = present_entry d ss

abbrev mutual
  pub move : Movement → Datum → Datum
  move m (a_number n) = a_number n
  move m (a_text bytes) = a_text bytes
  move m (a_vector ds) = a_vector (move_items m ds)
  move m (a_struct ds) = a_struct ds
  move m (a_table t ss) = a_table (m.type t) (move_slots m (m.slots (m.type t)) ss)
  move m (a_member c d) = a_member c (move m d)
  move m (an_unknown c) = an_unknown c

  pub move_items : Movement → Parts → Parts
  move_items m no_parts = no_parts
  move_items m (more_parts d ds) = more_parts (move m d) (move_items m ds)

  -- the entries for the table's slots there
  pub move_slots : Movement → List Slot → SlotEntries → SlotEntries
  move_slots m gs no_entries = m.added gs
  move_slots m [] (absent_entry ss) = no_entries
  move_slots m [] (present_entry d ss) = no_entries
  move_slots m (g ∷ gs) (absent_entry ss) = m.absent g (move_slots m gs ss)
  move_slots m (g ∷ gs) (present_entry d ss) = unless_gone g.deprecated (m.known g.shape d (move m d))
      (move_slots m gs ss)
