-- How many bytes are laid once an operation of a tape is, told by how many were before.
use Rattle.std.specs.Prelude.{ℕ, ◌+◌, ◌-◌, ◌*◌, ◌%◌, nat_lt, if◌then◌else◌, Bool, List}
use Rattle.std.specs.Prelude.{Option, None, Some}

-- the zeros that make a count of bytes a multiple
abbrev pub zeros_to : ℕ → ℕ → ℕ
zeros_to align count = (align - count % align) % align

-- Data are aligned after their count, which takes 4 bytes.
abbrev pub data_end : ℕ → ℕ → ℕ → ℕ
data_end align size laid = laid + (zeros_to align (laid + (size - 4)) + size)

abbrev pub references_end : ℕ → ℕ → ℕ
references_end count laid = data_end 4 (4 + count * 4) laid

-- The fields of a table begin at a multiple.
abbrev pub fields_end : ℕ → ℕ → ℕ → ℕ
fields_end align size laid = laid + (zeros_to align laid + size)

-- The first number of a table, and its vtable where that is new.
abbrev pub first_end : ℕ → Bool → ℕ → ℕ
first_end size is_known laid = laid + (if is_known then 4 else 4 + size)

abbrev pub vtable_end : ℕ → ℕ → ℕ → ℕ → ℕ
vtable_end size number known laid = first_end size (nat_lt number known) laid

-- what is after the fields of a table, from its end on
abbrev pub closed_end : ℕ → Bool → ℕ → ℕ
closed_end size is_known laid = first_end size is_known (laid + zeros_to 4 laid)

abbrev pub table_end : ℕ → ℕ → ℕ → ℕ → ℕ
table_end size number known laid = closed_end size (nat_lt number known) laid

-- A table that takes so many bytes up to the end of its fields, and its vtable where that is new.
abbrev pub sized_end : ℕ → ℕ → ℕ → Bool → ℕ → ℕ
sized_end align size vtable_size is_known laid =
    laid + (zeros_to align laid + size) + (if is_known then 0 else vtable_size)

-- The root's reference and the identifier, if there is one, and what comes before them: with these the whole length is
-- a multiple.
abbrev pub header_end : ℕ → Option (List ℕ) → ℕ → ℕ → ℕ
header_end front None most laid = laid + (zeros_to most (laid + (4 + front)) + (4 + front))
header_end front (Some id) most laid = laid + (zeros_to most (laid + (8 + front)) + (8 + front))
