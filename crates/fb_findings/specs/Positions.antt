-- Lines and columns of a text, both counted from 1. A line ends with a line feed; a column counts characters, and a
-- byte
-- order mark at the text's start is none.
use Rattle.std.specs.Prelude.{ℕ, ◌≡◌, ◌+◌, ◌==◌, ◌||◌, ◌-◌, ◌<◌, ◌≤◌, slice_index, Bool, List, [], ◌∷◌, length, take}
use Rattle.std.specs.Prelude.{drop, nat_le, nat_lt, nat_eq, if◌then◌else◌, count_by}
use Rattle.std.specs.List.{starts_with}
use Rattle.fb_findings.specs.declared.positions.Position.{Position}

abbrev pub is_feed : ℕ → Bool
is_feed byte = byte == 10

-- the byte doesn't continue a character (RFC 3629)
abbrev pub begins_character : ℕ → Bool
begins_character byte = nat_lt byte 128 || nat_le 192 byte

abbrev pub byte_order_mark : List ℕ
byte_order_mark = 239 ∷ 187 ∷ 191 ∷ []

abbrev pub mark_len : List ℕ → ℕ
mark_len text = if starts_with nat_eq text byte_order_mark then 3 else 0

-- what of a text is before an offset, without the mark
abbrev pub before : List ℕ → ℕ → List ℕ
before text offset = drop (mark_len text) (take offset text)

abbrev pub line_at : List ℕ → ℕ → ℕ
line_at text offset = 1 + count_by is_feed (before text offset)

-- Where the last line begins: after the last line feed, or at the text's start where there is none.
pub record IsLineStart (text : List ℕ) (start : ℕ) : Type 0 where
  pub one : count_by is_feed (drop start text) ≡ 0
  pub begins : 0 < start → slice_index text (start - 1) ≡ 10
  pub within : start ≤ length text

abbrev pub IsColumn : List ℕ → ℕ → ℕ → Type 0
IsColumn text offset column = (start : ℕ) × IsLineStart (before text offset) start
    × (column ≡ 1 + count_by begins_character (drop start (before text offset)))

-- the line and column of an offset
pub record IsPosition (text : List ℕ) (offset : ℕ) (position : Position) : Type 0 where
  pub line : position.line ≡ line_at text offset
  pub column : IsColumn text offset position.column

-- the offsets after the line feeds of a text that is itself at an offset
abbrev pub starts_from : ℕ → List ℕ → List ℕ
starts_from at [] = []
starts_from at (byte ∷ bytes) = if is_feed byte then (at + 1) ∷ starts_from (at + 1) bytes else starts_from
    (at + 1) bytes

-- where each line but the first begins: after each line feed, in order
abbrev pub line_starts : List ℕ → List ℕ
line_starts text = starts_from 0 text
