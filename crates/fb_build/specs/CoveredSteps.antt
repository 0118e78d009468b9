-- How the chunks of a tail grow while pieces are laid in front.
use Rattle.std.specs.Prelude.{ℕ, ◌+◌, ◌-◌, ◌≡◌, ◌≤◌, ◌++◌, false, List, [], ◌∷◌, length, map, flat_map, IsPermutation}
use Rattle.fb_layout.specs.Laid.{LaidSchema}
use Rattle.fb_value.specs.Datum.{Datum}
use Rattle.fb_value.specs.Num.{Bytes, num}
use Rattle.fb_value.specs.Places.{table_part, part_place}
use Rattle.fb_value.specs.Tails.{LiesInTail}
use Rattle.fb_build.specs.Pieces.{PartAt, reached_parts, greatest_align, is_among, each_once, tables_vtables}
use Rattle.fb_build.specs.Pieces.{header_piece, part_piece, vtable_piece}
use Rattle.fb_build.specs.Covered.{Chunk, chunk_bytes, pieces_among, begins_with_zeros, RunsAreShort}
use Rattle.fb_build.specs.Covered.{EqualVtablesAreOne, IsMadeOf, IsCoveredBy}
use Rattle.fb_build.specs.CoveredTails.{part_further, piece_further, parts_in_tail, TightInTail, InlineInTail}

-- The bytes are these chunks, of which the first isn't a run of zeros, so that one may be laid in front.
pub record ChunksOfTail (s : Bytes) (most : ℕ) (cs : List Chunk) : Type 0 where
  pub joined : s ≡ flat_map chunk_bytes cs
  pub runs : RunsAreShort most cs
  pub first : begins_with_zeros cs ≡ false

-- A greater number bounds runs too.
abbrev pub RunsKeptByMore : Type 0
RunsKeptByMore = (s : Bytes) (most more : ℕ) (cs : List Chunk) → most ≤ more → ChunksOfTail s most cs
    → ChunksOfTail s more cs

-- The chunks of what is laid in front and those of the tail are the chunks of both, and the tail's pieces stand further
-- on.
abbrev pub ChunksJoin : Type 0
ChunksJoin =
    (most : ℕ) (front s : Bytes) (fs cs : List Chunk) → ChunksOfTail front most fs → ChunksOfTail s most cs
    → ChunksOfTail (front ++ s) most (fs ++ cs)
    × (pieces_among 0 (fs ++ cs) ≡ pieces_among 0 fs ++ map (piece_further (length front)) (pieces_among 0 cs))

-- A tail is made of some parts, each once, and of vtables at some places, each once.
pub record MadeInTail (L : LaidSchema) (s : Bytes) (most : ℕ) (xs : List PartAt) (qs : List ℕ) : Type 0 where
  pub chunks : List Chunk
  pub are : ChunksOfTail s most chunks
  pub pieces : IsPermutation (pieces_among 0 chunks) (map (part_piece L s) xs ++ map (vtable_piece s) qs)

-- What is laid in front is made of parts and vtables of its own, and so it all is made of those and the tail's.
abbrev pub MadeInFront : Type 0
MadeInFront =
    (L : LaidSchema) (most : ℕ) (front s : Bytes) (fs : List Chunk) (xs ys : List PartAt) (qs rs : List ℕ)
    → ChunksOfTail front most fs → MadeInTail L s most xs qs
    → map (part_piece L (front ++ s)) (map (part_further (length front)) xs)
    ≡ map (piece_further (length front)) (map (part_piece L s) xs)
    → IsPermutation (pieces_among 0 fs) (map (part_piece L (front ++ s)) ys ++ map (vtable_piece (front ++ s)) rs)
    → MadeInTail L (front ++ s) most (ys ++ map (part_further (length front)) xs) (rs ++ map (λ q. length front + q) qs)

-- no number stands twice
abbrev pub AreDistinct : List ℕ → Type 0
AreDistinct [] = Unit {0}
AreDistinct (n ∷ ns) = (is_among n ns ≡ false) × AreDistinct ns

-- Numbers of which none stands twice, and that are those of a list, are each of that list once.
abbrev pub OnceWhereDistinct : Type 0
OnceWhereDistinct = (ns ms : List ℕ) → AreDistinct ns → ((n : ℕ) → is_among n ns ≡ is_among n ms)
    → IsPermutation ns (each_once ms)

-- Once the header is laid in front of a tail that is made of a value's parts and vtables, the buffer is made of them.
abbrev pub MadeWhole : Type 0
MadeWhole =
    (L : LaidSchema) (m most : ℕ) (front s : Bytes) (fs : List Chunk) (e : ℕ) (v : Datum) (qs : List ℕ)
    → LiesInTail L m s (part_place (table_part L.schema.root)) e v
    → MadeInTail L s most (parts_in_tail L s (table_part L.schema.root) e v) qs → AreDistinct qs
    → ((q : ℕ) → is_among q qs ≡ is_among q (tables_vtables s (parts_in_tail L s (table_part L.schema.root) e v)))
    → ChunksOfTail front most fs → pieces_among 0 fs ≡ header_piece L ∷ []
    → num (front ++ s) 0 4 ≡ length (front ++ s) - e
    → most ≤ greatest_align L (front ++ s) (reached_parts L (front ++ s) v)
    → IsMadeOf L (front ++ s) v

-- A buffer is covered by a value once its header is laid in front of a tail in which that lies and has no slack.
abbrev pub CoveredWhole : Type 0
CoveredWhole =
    (L : LaidSchema) (m : ℕ) (front s : Bytes) (e : ℕ) (v : Datum)
    → LiesInTail L m s (part_place (table_part L.schema.root)) e v
    → TightInTail L s (part_place (table_part L.schema.root)) e v
    → InlineInTail L s (part_place (table_part L.schema.root)) e v
    → EqualVtablesAreOne s (tables_vtables s (parts_in_tail L s (table_part L.schema.root) e v))
    → num (front ++ s) 0 4 ≡ length (front ++ s) - e → IsMadeOf L (front ++ s) v
    → IsCoveredBy L (front ++ s) v
