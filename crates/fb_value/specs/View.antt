-- The datum that a `Value` stands for.
use Rattle.std.specs.Prelude.{List, [], ◌∷◌, map, Option, Some, None, option_map, string_bytes}
use Rattle.fb_value.specs.Datum.{Datum, a_number, a_text, a_vector, a_struct, a_table, a_member, an_unknown, Parts}
use Rattle.fb_value.specs.Datum.{no_parts, more_parts, SlotEntries, no_entries, absent_entry, present_entry}
use Rattle.fb_value.specs.declared.values.Value.{Value, fold-Value}
use Rattle.fb_value.specs.declared.values.Value.TheOpen.{Value-F}

abbrev pub parts_in : List Datum → Parts
parts_in [] = no_parts
parts_in (d ∷ ds) = more_parts d (parts_in ds)

abbrev pub entries_in : List (Option Datum) → SlotEntries
entries_in [] = no_entries
entries_in (None ∷ es) = absent_entry (entries_in es)
entries_in (Some d ∷ es) = present_entry d (entries_in es)

-- one level, with each value inside already seen as its datum
abbrev pub view_step : Value-F Datum → Datum
view_step (Value-F.Number n) = a_number n
view_step (Value-F.Text s) = a_text (string_bytes s)
view_step (Value-F.Items items) = a_vector (parts_in items.items)
view_step (Value-F.Fixed parts) = a_struct (parts_in parts.items)
view_step (Value-F.Fields type entries) = a_table type.0 (entries_in entries.items)
view_step (Value-F.Member code member) = a_member code member.value
view_step (Value-F.Other code) = an_unknown code

abbrev pub view : Value → Datum
view = fold-Value Datum view_step

abbrev pub parts_view : List Value → Parts
parts_view vs = parts_in (map view vs)

abbrev pub entries_view : List (Option Value) → SlotEntries
entries_view es = entries_in (map (option_map view) es)
