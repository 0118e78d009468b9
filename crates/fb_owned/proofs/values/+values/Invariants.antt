use Rattle.std.proofs.Common.{◌≡◌, ℕ, ◌+◌, ◌*◌, map, option_map}
use Rattle.fb_value.specs.Datum.{Parts, SlotEntries, a_table}
use Rattle.fb_value.specs.View.{view}
use Rattle.fb_read.specs.Shows.{Shows, ShowsFields, ShowsItems}
use Rattle.fb_read.specs.Weights.{weight_of, table_weight, struct_weight, items_weight}
use Rattle.fb_owned.proofs.values.FrontsGrow.{first_entries, first_parts}
use Rattle.fb_owned.proofs.values.+values.Given as goal

-- What is in a table, a struct or a vector is lighter than it.
abbrev pub decreases-value_of_view : goal.decreases-value_of_view
decreases-value_of_view l = 2 * table_weight l.table

abbrev pub decreases-value_of_entry : goal.decreases-value_of_entry
decreases-value_of_entry l = 2 * weight_of l.entry + 1

abbrev pub decreases-values_of_fields : goal.decreases-values_of_fields
decreases-values_of_fields l = 2 * struct_weight l.fixed

abbrev pub decreases-values_of_items : goal.decreases-values_of_items
decreases-values_of_items l = 2 * items_weight l.items

abbrev pub invariant-value_of_view-loop-slot : goal.invariant-value_of_view-loop-slot
invariant-value_of_view-loop-slot l = (t : ℕ) (es : SlotEntries) → Shows l.table (a_table t es)
    → map (option_map view) l.entries.items ≡ first_entries l.slot es

abbrev pub invariant-values_of_fields-loop-field : goal.invariant-values_of_fields-loop-field
invariant-values_of_fields-loop-field l = (ds : Parts) → ShowsFields l.fixed ds
    → map view l.values.items ≡ first_parts l.field ds

abbrev pub invariant-values_of_items-loop-i : goal.invariant-values_of_items-loop-i
invariant-values_of_items-loop-i l = (ds : Parts) → ShowsItems l.items ds
    → map view l.values.items ≡ first_parts l.i ds
