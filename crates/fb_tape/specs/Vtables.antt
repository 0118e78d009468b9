-- The vtable of a table, told by what the table stores.
-- From the FlatBuffers documentation, "FlatBuffer Internals": Tables (a vtable's own size, its table's, and where the
-- field of each slot stands, up to the last that is stored). Where fields stand is this project's own: from the table's
-- end on by falling alignment, those of one alignment in the order of their slots.
use Rattle.std.specs.Prelude.{ℕ, zero, suc, ◌+◌, ◌-◌, ◌*◌, ◌++◌, List, [], ◌∷◌, Option, if◌then◌else◌, take, length}
use Rattle.std.specs.Prelude.{flat_map}
use Rattle.byteorder.specs.Endian.{little_bytes}
use Rattle.fb_layout.specs.Laid.{LaidSchema, Slot}
use Rattle.fb_layout.specs.Sizes.{ceil4}
use Rattle.fb_layout.specs.Widths.{inline_align}
use Rattle.fb_value.specs.Datum.{Datum}
use Rattle.fb_value.specs.Num.{Bytes}
use Rattle.fb_tape.specs.StoredFields.{fields_size, size_at, size_above}
use Rattle.fb_tape.specs.Defaults.{is_stored}

-- The end-count of slot k, counted from the start of its table's fields: the sizes of what is stored that is aligned
-- above it, and of what is stored at its own alignment, up to and with itself.
abbrev pub stored_end : LaidSchema → List Slot → List (Option Datum) → ℕ → Slot → ℕ
stored_end L fs xs k f = size_above L (inline_align L f.shape) fs xs
    + size_at L (inline_align L f.shape) (take (suc k) fs) (take (suc k) xs)

-- the bytes of a table: its first number and its stored fields, up to a multiple of 4
abbrev pub table_size : LaidSchema → List Slot → List (Option Datum) → ℕ
table_size L fs xs = 4 + ceil4 (fields_size L fs xs)

-- where the field of slot k stands in its table; 0 where it isn't stored
abbrev pub field_offset : LaidSchema → List Slot → List (Option Datum) → ℕ → Slot → Option Datum → ℕ
field_offset L fs xs k f x = if is_stored f x then table_size L fs xs - stored_end L fs xs k f else 0

-- those of the slots gs from k on, which have the entries ys
unfoldable pub offsets_from : LaidSchema → List Slot → List (Option Datum) → ℕ → List Slot → List (Option Datum)
    → List ℕ
offsets_from L fs xs k (g ∷ gs) (y ∷ ys) = field_offset L fs xs k g y ∷ offsets_from L fs xs (suc k) gs ys
offsets_from L fs xs k _ _ = []

-- some numbers without the zeros at their end
abbrev pub trimmed : List ℕ → List ℕ
trimmed [] = []
trimmed (n ∷ ns) = trimmed_front n (trimmed ns)
  where
    trimmed_front : ℕ → List ℕ → List ℕ
    trimmed_front zero [] = []
    trimmed_front n ns = n ∷ ns

-- the vtable of a table with these offsets and this size
abbrev pub vtable_with : ℕ → List ℕ → Bytes
vtable_with size offsets =
    little_bytes 2 (4 + 2 * length offsets) ++ (little_bytes 2 size ++ flat_map (little_bytes 2) offsets)

abbrev pub vtable_of : LaidSchema → List Slot → List (Option Datum) → Bytes
vtable_of L fs xs = vtable_with (table_size L fs xs) (trimmed (offsets_from L fs xs 0 fs xs))
