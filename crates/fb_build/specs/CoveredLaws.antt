-- Laws of covered buffers.
use Rattle.std.specs.Prelude.{ℕ, ◌+◌, ◌≡◌, ◌≤◌, ◌<◌, Bool, not, nat_lt, length, slice_index}
use Rattle.std.specs.List.{AllPass, Contains}
use Rattle.fb_layout.specs.Laid.{LaidSchema}
use Rattle.fb_value.specs.Datum.{Datum}
use Rattle.fb_value.specs.Num.{Bytes}
use Rattle.fb_value.specs.Places.{Target, table_part, member_part, part_place}
use Rattle.fb_value.specs.Lies.{LiesAt}
use Rattle.fb_value.specs.Reached.{Path, Leads}
use Rattle.fb_value.specs.Holds.{root_place}
use Rattle.fb_tape.specs.Taken.{is_within}
use Rattle.fb_build.specs.Pieces.{Piece, reached_parts, greatest_align, pieces_of}
use Rattle.fb_build.specs.Covered.{IsCoveredBy, Covered}

-- whether byte i isn't in a piece
abbrev pub is_outside : ℕ → Piece → Bool
is_outside i x = not (is_within x.at x.size i)

-- A buffer is covered by each value that lies in it: there is one at most.
abbrev pub CoveredByItsValue : Type 0
CoveredByItsValue = (L : LaidSchema) (b : Bytes) (v : Datum) → LiesAt L b (root_place L).sort 0 v → Covered L b
    → IsCoveredBy L b v

-- A byte in no piece of the value is 0.
abbrev pub ZeroOutside : Type 0
ZeroOutside = (L : LaidSchema) (b : Bytes) (v : Datum) → IsCoveredBy L b v → (i : ℕ)
    → AllPass (is_outside i) (pieces_of L b (reached_parts L b v)) → slice_index b i ≡ 0

-- Of as many bytes one after the other as the greatest alignment, one is in a piece, where no piece is empty.
abbrev pub FewOutside : Type 0
FewOutside =
    (L : LaidSchema) (b : Bytes) (v : Datum) → IsCoveredBy L b v
    → AllPass (λ x. nat_lt 0 x.size) (pieces_of L b (reached_parts L b v))
    → (i : ℕ) → i + greatest_align L b (reached_parts L b v) ≤ length b
    → ((j : ℕ) → j < greatest_align L b (reached_parts L b v)
    → AllPass (is_outside (i + j)) (pieces_of L b (reached_parts L b v))) → ⊥

-- a union's member is listed as its table
abbrev pub listed_as : Target → Target
listed_as (member_part c t) = table_part t
listed_as X = X

-- Each table, text and vector to which a path leads is among the parts.
abbrev pub ReachedIsListed : Type 0
ReachedIsListed =
    (L : LaidSchema) (b : Bytes) (v : Datum) → LiesAt L b (root_place L).sort 0 v → (path : Path) (X : Target) (p : ℕ)
    → Leads L b (root_place L) path (record { sort = part_place X; at = p })
    → Contains (reached_parts L b v) (record { target = listed_as X; at = p })
