-- Lines that can't drive a terminal, and what is written of them.
use Rattle.std.specs.Prelude.{ℕ, ◌≡◌, ◌<◌, ◌≤◌, ◌++◌, List, [], ◌∷◌, false, unwrap_or, sum_by}
use Rattle.std.specs.List.{All}
use Rattle.unicode_width.specs.Width.{char_width}

-- How many columns a character takes. A control character takes none, and neither does one that changes what is round
-- it.
abbrev pub columns_of : ℕ → ℕ
columns_of character = unwrap_or (char_width false character) 0

-- each character takes a column of its own, and all together take at most 120
pub record IsLine (line : List ℕ) : Type 0 where
  pub shown : All (λ character. 0 < columns_of character) line
  pub narrow : sum_by columns_of line ≤ 120

-- the text of lines, with a line feed after each
abbrev pub ended : List (List ℕ) → List ℕ
ended [] = []
ended (line ∷ lines) = line ++ 10 ∷ ended lines

-- The text is lines, each ended by a line feed.
pub record IsPage (text : List ℕ) : Type 0 where
  pub lines : List (List ℕ)
  pub are_lines : All IsLine lines
  pub spelled : text ≡ ended lines

-- a text, and how many columns are taken after its last line feed
pub record Written : Type 0 where
  pub text : List ℕ
  pub columns : ℕ

-- Ended lines, and one after them that goes on.
pub record IsWritten (written : Written) : Type 0 where
  pub lines : List (List ℕ)
  pub line : List ℕ
  pub are_lines : All IsLine lines
  pub is_line : IsLine line
  pub spelled : written.text ≡ ended lines ++ line
  pub taken : written.columns ≡ sum_by columns_of line
