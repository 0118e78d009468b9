-- Which bytes a list of ranges has.
use Rattle.std.specs.Prelude.{ℕ, ◌≤◌, ◌<◌, List}
use Rattle.std.specs.List.{Any}
use Rattle.fb_inspect.specs.declared.pieces.BufferPiece.{BufferPiece}

-- a byte is in a piece's range
abbrev pub IsIn : ℕ → BufferPiece → Type 0
IsIn byte piece = (piece.start ≤ byte) × (byte < piece.end)

-- each byte before this one is in a piece's range
abbrev pub CoversBelow : List BufferPiece → ℕ → Type 0
CoversBelow pieces end = (byte : ℕ) → byte < end → Any (IsIn byte) pieces
