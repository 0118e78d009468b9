-- What a listing of a buffer is: pieces in the order of their begins, with each byte in one of them.
use Rattle.std.specs.Prelude.{ℕ, ◌≡◌, ◌≤◌, ◌++◌, Bool, true, false, List, [], ◌∷◌, Option, None, Some, map, filter, min}
use Rattle.std.specs.Prelude.{unwrap_or}
use Rattle.std.specs.List.{All}
use Rattle.std.specs.List.Sorted.{IsNonDecreasingBy, IsPermutation}
use Rattle.fb_value.specs.FaultTable.{offset_of}
use Rattle.fb_value.specs.declared.faults.ReadFault.{ReadFault}
use Rattle.fb_inspect.specs.Covers.{CoversBelow}
use Rattle.fb_inspect.specs.declared.pieces.BufferPiece.{BufferPiece}
use Rattle.fb_inspect.specs.declared.pieces.What.{What}
use Rattle.fb_inspect.specs.declared.pieces.What.TheVariants.{Gap, Fault}

-- something was noted there; a gap is the bytes between such pieces
abbrev pub is_noted : What → Bool
is_noted Gap = false
is_noted _ = true

-- where a piece begins, the part that it is of, and what it is
abbrev pub head_of : BufferPiece → ℕ × ℕ × What
head_of piece = (piece.start, piece.node, piece.what)

-- the heads of the pieces that were noted
abbrev pub noted_in : List BufferPiece → List (ℕ × ℕ × What)
noted_in pieces = map head_of (filter (λ p. is_noted p.what) pieces)

-- the pieces are in the order of their begins
abbrev pub IsInOrder : List BufferPiece → Type 0
IsInOrder pieces = IsNonDecreasingBy (λ p. p.start) pieces

-- no piece begins after this position
abbrev pub BeginBy : ℕ → List BufferPiece → Type 0
BeginBy end pieces = All (λ p. p.start ≤ end) pieces

-- Pieces in order, with each byte before a position in one, and none that begins after it.
pub record IsListedTo (pieces : List BufferPiece) (end : ℕ) : Type 0 where
  pub covers : CoversBelow pieces end
  pub ordered : IsInOrder pieces
  pub begun : BeginBy end pieces

-- Each of these pieces is among the others once, whatever its end, and all else there are gaps.
pub record IsKeptIn (pieces all : List BufferPiece) : Type 0 where
  pub sorted : List BufferPiece
  pub same : IsPermutation pieces sorted
  pub kept : noted_in all ≡ noted_in sorted

-- the piece of a fault in a buffer of this length: at its offset, if it has one, and at most at the end
abbrev pub fault_piece : ℕ → ReadFault → BufferPiece
fault_piece len fault = let at = min (unwrap_or (offset_of fault) 0) (min len 4294967295) in record {
  start = at;
  end = at;
  node = 0;
  what = Fault;
}

-- the pieces, and that of the fault if there is one
abbrev pub with_fault : ℕ → Option ReadFault → List BufferPiece → List BufferPiece
with_fault len None pieces = pieces
with_fault len (Some fault) pieces = pieces ++ fault_piece len fault ∷ []
