-- Laws of sizes and alignments, over every layout that is well made.
-- From the FlatBuffers documentation, "FlatBuffer Internals": Structs.
use Rattle.std.specs.Prelude.{ℕ, ◌*◌, ◌<◌, ◌≤◌, ◌≡◌, length}
use Rattle.fb_layout.specs.Sizes.{IsAlignment}
use Rattle.fb_layout.specs.Laid.{LaidSchema, StoredKind, parts_of, size_of, align_of}
use Rattle.fb_layout.specs.Widths.{table_align, greatest}
use Rattle.fb_layout.specs.WellMade.{IsWellMade}

-- The alignment of what is stored is a power of two, 256 at most.
abbrev pub KindsAligned : Type 0
KindsAligned = (L : LaidSchema) (kind : StoredKind) → IsWellMade L → IsAlignment (align_of L kind)

-- So is the alignment of a table.
abbrev pub TablesAligned : Type 0
TablesAligned = (L : LaidSchema) (t : ℕ) → IsWellMade L → IsAlignment (table_align L t)

-- So is the greatest alignment of all.
abbrev pub GreatestAligned : Type 0
GreatestAligned = (L : LaidSchema) → IsWellMade L → IsAlignment (greatest L)

-- No alignment is 0.
abbrev pub NoneAlignedToZero : Type 0
NoneAlignedToZero = (L : LaidSchema) (kind : StoredKind) → IsWellMade L → 0 < align_of L kind

-- The size of what is stored is a multiple of its alignment.
abbrev pub SizesAreMultiples : Type 0
SizesAreMultiples = (L : LaidSchema) (kind : StoredKind) → IsWellMade L
    → (k : ℕ) × (size_of L kind ≡ k * align_of L kind)

-- Sizes fit 16 bits.
abbrev pub SizesFit : Type 0
SizesFit = (L : LaidSchema) (kind : StoredKind) → IsWellMade L → size_of L kind ≤ 65535

-- A struct has 65,535 fields at most, since each takes a byte at least.
abbrev pub StructsHaveFewParts : Type 0
StructsHaveFewParts = (L : LaidSchema) (s : ℕ) → IsWellMade L → length (parts_of L s) ≤ 65535
