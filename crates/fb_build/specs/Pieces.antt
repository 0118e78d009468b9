-- The pieces of a buffer: what is reached in it, and how many bytes each takes.
-- From the FlatBuffers documentation, "FlatBuffer Internals": Tables, Unions, Strings and vectors; "File
-- identification".
use Rattle.std.specs.Prelude.{ℕ, ◌+◌, ◌*◌, ◌++◌, ◌==◌, ◌||◌, Bool, false, max, List, [], ◌∷◌, map, filter_map}
use Rattle.std.specs.Prelude.{if◌then◌else◌, Option, None, Some}
use Rattle.fb_schema.specs.Alignments.{greatest_in}
use Rattle.fb_layout.specs.Laid.{LaidSchema, StoredKind, slots_of, size_of, align_of}
use Rattle.fb_layout.specs.Widths.{inline_align}
use Rattle.fb_value.specs.Datum.{Datum, a_text, a_vector, a_table, a_member, Parts, no_parts, more_parts, SlotEntries}
use Rattle.fb_value.specs.Datum.{absent_entry, present_entry}
use Rattle.fb_value.specs.Num.{Bytes, num}
use Rattle.fb_value.specs.Places.{Target, table_part, member_part, text_part, vector_part, Sort, ref_place, part_place}
use Rattle.fb_value.specs.Places.{Place, vtable, named_slots, target_of}
use Rattle.fb_value.specs.Holds.{root_place}
use Rattle.fb_build.specs.Stored.{stored_of}

-- a table, text or vector, and where it begins
pub record PartAt : Type 0 where
  pub target : Target
  pub at : ℕ

-- behind a reference; what stands in its place is no part of its own
abbrev pub reached_behind : Bytes → Sort → ℕ → (Target → ℕ → List PartAt) → List PartAt
reached_behind b (ref_place X) p more = more X (p + num b p 4)
reached_behind b (part_place X) p more = more X p
reached_behind b _ p more = []

abbrev pub reached_named : Bytes → Option Place → (Target → ℕ → List PartAt) → List PartAt
reached_named b None more = []
reached_named b (Some x) more = reached_behind b x.sort x.at more

abbrev pub reached_element : Bytes → Option Target → ℕ → (Target → ℕ → List PartAt) → List PartAt
reached_element b None p more = []
reached_element b (Some X) p more = reached_behind b (ref_place X) p more

-- Each table, text and vector in which a value lies, once for each path that leads there.
abbrev mutual
  pub reached : LaidSchema → Bytes → Target → ℕ → Datum → List PartAt
  reached L b text_part p (a_text bytes) = record { target = text_part; at = p } ∷ []
  reached L b (vector_part kind) p (a_vector ds) =
      record { target = vector_part kind; at = p } ∷ reached_items L b kind (p + 4) ds
  reached L b (table_part t) p (a_table type es) =
      record { target = table_part t; at = p } ∷ reached_entries L b (named_slots L b p 0 (slots_of L t)) es
  reached L b (member_part c t) p (a_member c2 d) = reached L b (table_part t) p d
  reached L b _ p _ = []

  pub reached_items : LaidSchema → Bytes → StoredKind → ℕ → Parts → List PartAt
  reached_items L b kind p no_parts = []
  reached_items L b kind p (more_parts d ds) =
      reached_element b (target_of kind) p (λ X q. reached L b X q d) ++ reached_items L b kind (p + size_of L kind) ds

  pub reached_entries : LaidSchema → Bytes → List (Option Place) → SlotEntries → List PartAt
  reached_entries L b (x ∷ xs) (absent_entry es) = reached_entries L b xs es
  reached_entries L b (x ∷ xs) (present_entry d es) =
      reached_named b x (λ X q. reached L b X q d) ++ reached_entries L b xs es
  reached_entries L b _ _ = []

-- those of a whole buffer, at whose root a value lies
abbrev pub reached_parts : LaidSchema → Bytes → Datum → List PartAt
reached_parts L b v = reached_behind b (root_place L).sort 0 (λ X q. reached L b X q v)

-- How many bytes a part has: a table those that its vtable tells, a vector its count and elements, a text its count,
-- bytes and zero byte.
abbrev pub part_size : LaidSchema → Bytes → Target → ℕ → ℕ
part_size L b (table_part t) p = num b (vtable b p + 2) 2
part_size L b (member_part c t) p = num b (vtable b p + 2) 2
part_size L b text_part p = (4 + num b p 4) + 1
part_size L b (vector_part kind) p = 4 + num b p 4 * size_of L kind

-- what a part is aligned to: a table to its stored fields, a vector to its elements, even without one
abbrev pub part_align : LaidSchema → Bytes → Target → ℕ → ℕ
part_align L b (table_part t) p = greatest_in (map (λ x. inline_align L x.slot.shape) (stored_of L b t p))
part_align L b (member_part c t) p = greatest_in (map (λ x. inline_align L x.slot.shape) (stored_of L b t p))
part_align L b text_part p = 4
part_align L b (vector_part kind) p = align_of L kind

-- the greatest alignment of some parts, at least 4
abbrev pub greatest_align : LaidSchema → Bytes → List PartAt → ℕ
greatest_align L b xs = max 4 (greatest_in (map (λ x. part_align L b x.target x.at) xs))

-- where a table's vtable stands
abbrev pub vtable_of : Bytes → Target → ℕ → Option ℕ
vtable_of b (table_part t) p = Some (vtable b p)
vtable_of b (member_part c t) p = Some (vtable b p)
vtable_of b _ p = None

abbrev pub is_among : ℕ → List ℕ → Bool
is_among n [] = false
is_among n (m ∷ ms) = (n == m) || is_among n ms

-- each number of a list once
unfoldable pub each_once : List ℕ → List ℕ
each_once [] = []
each_once (n ∷ ns) = if is_among n ns then each_once ns else n ∷ each_once ns

-- where each table's vtable stands, a table after the other
abbrev pub tables_vtables : Bytes → List PartAt → List ℕ
tables_vtables b xs = filter_map (λ x. vtable_of b x.target x.at) xs

-- Where the vtables of some parts stand: one may serve several tables.
abbrev pub vtables_of : Bytes → List PartAt → List ℕ
vtables_of b xs = each_once (tables_vtables b xs)

-- what a stretch of bytes is
pub data PieceKind : Type 0 where
  -- the root's reference, and the identifier after it
  whole_header : PieceKind
  -- a table's own bytes, a vector or a text
  whole_part : PieceKind
  whole_vtable : PieceKind

-- so many bytes from a position on
pub record Piece : Type 0 where
  pub kind : PieceKind
  pub at : ℕ
  pub size : ℕ

abbrev pub header_size : Option (List ℕ) → ℕ
header_size None = 4
header_size (Some id) = 8

abbrev pub header_piece : LaidSchema → Piece
header_piece L = record { kind = whole_header; at = 0; size = header_size L.schema.identifier }

abbrev pub part_piece : LaidSchema → Bytes → PartAt → Piece
part_piece L b x = record { kind = whole_part; at = x.at; size = part_size L b x.target x.at }

abbrev pub vtable_piece : Bytes → ℕ → Piece
vtable_piece b q = record { kind = whole_vtable; at = q; size = num b q 2 }

-- The pieces of a buffer: its header, its parts once for each path, its vtables each once.
abbrev pub pieces_of : LaidSchema → Bytes → List PartAt → List Piece
pieces_of L b xs = header_piece L ∷ (map (part_piece L b) xs ++ map (vtable_piece b) (vtables_of b xs))
