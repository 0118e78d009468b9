-- How heavy an entry of a buffer is, and how many elements it has.
use Rattle.std.specs.Prelude.{ℕ, ◌+◌, ◌*◌}
use Rattle.fb_read.specs.declared.entry.Entry.{Entry}
use Rattle.fb_read.specs.declared.entry.Entry.TheVariants.{Absent, Number, Text, Fixed, Table, Member, Unknown, Vector}
use Rattle.fb_read.specs.Weights.{table_weight, struct_weight, items_weight}

-- a union's member is heavier than its table
abbrev pub entry_weight : Entry → ℕ
entry_weight Absent = 0
entry_weight (Number n) = 0
entry_weight (Text s) = 0
entry_weight (Fixed view) = 2 * struct_weight view
entry_weight (Table view) = 2 * table_weight view
entry_weight (Member code view) = 2 * table_weight view + 1
entry_weight (Unknown code) = 0
entry_weight (Vector items) = 2 * items_weight items

abbrev pub len_in : Entry → ℕ
len_in (Vector items) = items.len
len_in _ = 0
