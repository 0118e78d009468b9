-- The parts of a value and the entries of a table, as lists.
use Rattle.std.proofs.Common.{◌≡◌, List, [], ◌∷◌, Option, None, Some, refl, ap}
use Rattle.fb_value.specs.Datum.{Datum, Parts, no_parts, more_parts, SlotEntries, no_entries, absent_entry}
use Rattle.fb_value.specs.Datum.{present_entry}
use Rattle.fb_value.specs.View.{parts_in, entries_in}

abbrev pub parts_out : Parts → List Datum
parts_out no_parts = []
parts_out (more_parts d ds) = d ∷ parts_out ds

abbrev pub entries_out : SlotEntries → List (Option Datum)
entries_out no_entries = []
entries_out (absent_entry es) = None ∷ entries_out es
entries_out (present_entry d es) = Some d ∷ entries_out es

pub parts_same : (ds : Parts) → parts_in (parts_out ds) ≡ ds
parts_same no_parts = refl
parts_same (more_parts d ds) = ap (more_parts d) (parts_same ds)

pub entries_same : (es : SlotEntries) → entries_in (entries_out es) ≡ es
entries_same no_entries = refl
entries_same (absent_entry es) = ap absent_entry (entries_same es)
entries_same (present_entry d es) = ap (present_entry d) (entries_same es)
