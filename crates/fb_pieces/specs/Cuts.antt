-- What a cut of a text gives: a run of an array's elements, or a member of an object.
use Rattle.std.specs.Prelude.{◌≡◌, ℕ, ◌+◌, ◌≤◌, if◌then◌else◌, Some, List, slice_get}
use Rattle.json.specs.Ascii as ascii
use Rattle.fb_pieces.specs.declared.cut.Piece.{Piece}
use Rattle.fb_pieces.specs.declared.cut.Run.{Run}
use Rattle.fb_pieces.specs.declared.cut.Member.{Member}

-- The piece is the text from here to this byte.
pub record StandsBefore (text : List ℕ) (from edge : ℕ) (piece : Piece) : Type 0 where
  pub starts : piece.start ≡ from
  pub ends : from ≤ piece.end
  pub before : slice_get text piece.end ≡ Some edge

-- The run ends before a comma, the last one before the bracket.
abbrev pub IsRunOf : List ℕ → ℕ → Run → Type 0
IsRunOf text from run = StandsBefore text from (if run.is_last then ascii.close_bracket else ascii.comma) run.elements

-- The name ends before a colon, and the value after it before a comma, the last one before the brace.
pub record IsMemberOf (text : List ℕ) (from : ℕ) (member : Member) : Type 0 where
  pub name : StandsBefore text from ascii.colon member.name
  pub value : StandsBefore text (member.name.end + 1) (if member.is_last then ascii.close_brace else ascii.comma)
      member.value
