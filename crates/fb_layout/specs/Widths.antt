-- The greatest inline size of a table, the greatest alignments, and the most slots.
-- From the FlatBuffers documentation, "FlatBuffer Internals": Tables, Structs.
use Rattle.std.specs.Prelude.{ℕ, ◌+◌, max, length, map, sum_by, if◌then◌else◌}
use Rattle.fb_schema.specs.Schema.{DeclaredSchema, DeclaredType, slots_in}
use Rattle.fb_schema.specs.Alignments.{greatest_in}
use Rattle.fb_layout.specs.Sizes.{ceil4}
use Rattle.fb_layout.specs.Laid.{LaidSchema, StoredShape, one_of, vector_of, stored_shape, slots_of, kind_in, size_of}
use Rattle.fb_layout.specs.Laid.{align_of}

-- what a slot takes in its table: a vector is stored as a reference
abbrev pub inline_size : LaidSchema → StoredShape → ℕ
inline_size L (one_of kind) = size_of L kind
inline_size L (vector_of kind) = 4

abbrev pub inline_align : LaidSchema → StoredShape → ℕ
inline_align L (one_of kind) = align_of L kind
inline_align L (vector_of kind) = 4

-- The greatest inline size of a table: its first number and all its slots that aren't deprecated.
abbrev pub widest : LaidSchema → ℕ → ℕ
widest L t = 4 + ceil4 (sum_by (λ f. if f.deprecated then 0 else inline_size L f.shape) (slots_of L t))

-- the greatest of 4 and the alignments of a table's slots that aren't deprecated
abbrev pub table_align : LaidSchema → ℕ → ℕ
table_align L t = max 4 (greatest_in (map (λ f. if f.deprecated then 4 else inline_align L f.shape) (slots_of L t)))

-- the greatest alignment that the slots of a type need, deprecated ones and elements of vectors included
abbrev pub slots_align : LaidSchema → DeclaredType → ℕ
slots_align L type = greatest_in (map (λ f. align_of L (kind_in (stored_shape L.schema f.shape))) (slots_in type.body))

-- the greatest of 4 and the alignments of all structs, also unused ones, of all slots and of all elements of vectors
abbrev pub greatest : LaidSchema → ℕ
greatest L = max 4 (max (greatest_in (map (λ r. r.align) L.structs)) (greatest_in (map (slots_align L) L.schema.types)))

-- the most slots that a table has
abbrev pub most_slots : DeclaredSchema → ℕ
most_slots S = greatest_in (map (λ type. length (slots_in type.body)) S.types)
