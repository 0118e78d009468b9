-- How many bytes are laid once the operations of a tape are.
use Rattle.std.specs.Prelude.{ℕ, max, List, [], ◌∷◌, length, take, drop, slice_get, unwrap_or}
use Rattle.fb_value.specs.Num.{Bytes}
use Rattle.fb_tape.specs.Alignments.{aligned_to}
use Rattle.fb_tape.specs.Tapes.{known_after}
use Rattle.fb_tape.specs.declared.ops.NotedField.{NotedField}
use Rattle.fb_tape.specs.declared.ops.Op.{Op}
use Rattle.fb_tape.specs.declared.ops.Op.TheVariants.{Data, References, Table}
use Rattle.fb_build.specs.Lengths.{data_end, references_end, fields_end, table_end}
use Rattle.fb_build.specs.NotesLaid.{notes_size}

-- how many fields an operation has
abbrev pub op_fields : Op → ℕ
op_fields (Table align fields number) = fields
op_fields _ = 0

abbrev pub op_end : List Bytes → ℕ → Op → List NotedField → ℕ → ℕ
op_end vtables known (Data align size) notes laid = data_end (aligned_to align) size laid
op_end vtables known (References count) notes laid = references_end count laid
op_end vtables known (Table align fields number) notes laid =
    table_end (length (unwrap_or (slice_get vtables number) [])) number known
    (fields_end (aligned_to align) (notes_size notes) laid)

abbrev pub ops_end : List Bytes → ℕ → List Op → List NotedField → ℕ → ℕ
ops_end vtables known [] notes laid = laid
ops_end vtables known (op ∷ ops) notes laid = ops_end vtables (known_after known op) ops (drop (op_fields op) notes)
    (op_end vtables known op (take (op_fields op) notes) laid)

-- ---- what the tail is padded to at most

abbrev pub op_most : Op → ℕ → ℕ
op_most (Data align size) most = max most (aligned_to align)
op_most (References count) most = max most 4
op_most (Table align fields number) most = max (max most (aligned_to align)) 4

abbrev pub ops_most : List Op → ℕ → ℕ
ops_most [] most = most
ops_most (op ∷ ops) most = ops_most ops (op_most op most)
