-- That every byte of a buffer belongs to its value, or is one of few zeros between what does.
-- From the FlatBuffers documentation, "FlatBuffer Internals": what a buffer is made of. That nothing else is in it is
-- this project's own.
use Rattle.std.specs.Prelude.{ℕ, ◌+◌, ◌≡◌, ◌<◌, Bool, true, false, List, [], ◌∷◌, length, drop, replicate, flat_map}
use Rattle.std.specs.Prelude.{IsPermutation}
use Rattle.fb_layout.specs.Laid.{LaidSchema}
use Rattle.fb_value.specs.Datum.{Datum}
use Rattle.fb_value.specs.Num.{Bytes, num, part_of, divides}
use Rattle.fb_value.specs.Lies.{LiesAt}
use Rattle.fb_value.specs.EachTable.{EachTableAt}
use Rattle.fb_value.specs.Holds.{front_of, root_place}
use Rattle.fb_build.specs.Pieces.{PieceKind, Piece, reached_parts, greatest_align, is_among, tables_vtables, pieces_of}
use Rattle.fb_build.specs.Stored.{IsTightTable}
use Rattle.fb_tape.specs.InlineBytes.{IsTightInline, EachInlineAt}

-- the bytes of a piece, or a run of zeros
pub data Chunk : Type 0 where
  piece_chunk : PieceKind → Bytes → Chunk
  zeros_chunk : ℕ → Chunk

abbrev pub chunk_bytes : Chunk → Bytes
chunk_bytes (piece_chunk kind bytes) = bytes
chunk_bytes (zeros_chunk n) = replicate n 0

-- the pieces among chunks that follow each other from a position on
abbrev pub pieces_among : ℕ → List Chunk → List Piece
pieces_among p [] = []
pieces_among p (piece_chunk kind bytes ∷ cs) =
    record { kind = kind; at = p; size = length bytes } ∷ pieces_among (p + length bytes) cs
pieces_among p (zeros_chunk n ∷ cs) = pieces_among (p + n) cs

abbrev pub begins_with_zeros : List Chunk → Bool
begins_with_zeros (zeros_chunk n ∷ cs) = true
begins_with_zeros _ = false

-- Each run of zeros is shorter than a number, and no two are side by side.
abbrev pub RunsAreShort : ℕ → List Chunk → Type 0
RunsAreShort most [] = Unit {0}
RunsAreShort most (piece_chunk kind bytes ∷ cs) = RunsAreShort most cs
RunsAreShort most (zeros_chunk n ∷ cs) = (n < most) × (begins_with_zeros cs ≡ false) × RunsAreShort most cs

-- the bytes of the vtable at a place
abbrev pub vtable_at : Bytes → ℕ → Bytes
vtable_at b q = part_of b q (num b q 2)

-- Of the vtables at some places, equal ones stand at one place.
abbrev pub EqualVtablesAreOne : Bytes → List ℕ → Type 0
EqualVtablesAreOne b qs = (q r : ℕ) → is_among q qs ≡ true → is_among r qs ≡ true → vtable_at b q ≡ vtable_at b r
    → q ≡ r

-- The bytes are chunks, one after the other: the pieces in which the value lies, each once, and short runs of zeros.
pub record IsMadeOf (L : LaidSchema) (b : Bytes) (v : Datum) : Type 0 where
  pub chunks : List Chunk
  pub joined : b ≡ flat_map chunk_bytes chunks
  pub pieces : IsPermutation (pieces_among 0 chunks) (pieces_of L b (reached_parts L b v))
  pub runs : RunsAreShort (greatest_align L b (reached_parts L b v)) chunks

-- Each byte belongs to a value, or is one of few zeros: equal vtables are one, and no table, struct or number has
-- anything to spare.
pub record IsCoveredBy (L : LaidSchema) (b : Bytes) (v : Datum) : Type 0 where
  pub made : IsMadeOf L b v
  pub shared : EqualVtablesAreOne b (tables_vtables b (reached_parts L b v))
  pub tables : EachTableAt L b (IsTightTable L b) (root_place L).sort 0 v
  pub inline : EachInlineAt L b (IsTightInline L b) (root_place L).sort 0 v

-- Covered: the value that lies at the root takes all bytes, but for those of a size prefix.
abbrev pub CoveredFramed : Bool → LaidSchema → Bytes → Type 0
CoveredFramed prefixed L b = (v : Datum) × LiesAt L b (root_place L).sort (front_of prefixed) v
    × IsCoveredBy L (drop (front_of prefixed) b) v

abbrev pub Covered : LaidSchema → Bytes → Type 0
Covered L b = CoveredFramed false L b

-- The length of a buffer, with its size prefix, is a multiple of the greatest alignment of a part in which its value
-- lies.
abbrev pub EndsAlignedFramed : Bool → LaidSchema → Bytes → Type 0
EndsAlignedFramed prefixed L b = (v : Datum) × LiesAt L b (root_place L).sort (front_of prefixed) v
    × (divides (greatest_align L (drop (front_of prefixed) b) (reached_parts L (drop (front_of prefixed) b) v))
    (length b) ≡ true)

abbrev pub EndsAligned : LaidSchema → Bytes → Type 0
EndsAligned L b = EndsAlignedFramed false L b
