use Rattle.std.proofs.Common.{◌+◌, ◌*◌}
use Rattle.fb_read.specs.Weights.{weight_of, table_weight, items_weight}
use Rattle.fb_explain_buffers.proofs.union_paths.+unnamed.Given as goal

-- What stands in a table or vector is lighter, and an entry ranks above the table or vector that it is.
abbrev pub decreases-first_in_entry : goal.decreases-first_in_entry
decreases-first_in_entry l = 2 * weight_of l.entry + 1

abbrev pub decreases-first_unnamed : goal.decreases-first_unnamed
decreases-first_unnamed l = 2 * table_weight l.view

abbrev pub decreases-first_in_items : goal.decreases-first_in_items
decreases-first_in_items l = 2 * items_weight l.items
