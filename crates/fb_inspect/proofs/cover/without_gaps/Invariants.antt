use Rattle.std.proofs.Common.{◌≡◌, ℕ, ◌<◌, ◌≤◌, length, slice_index_or, take}
use Rattle.fb_inspect.specs.Listings.{BeginBy, IsListedTo, noted_in}
use Rattle.fb_inspect.specs.declared.pieces.BufferPiece.{BufferPiece}
use Rattle.fb_inspect.proofs.cover.without_gaps.Given as goal

-- the pieces before the loop's place were added, and those from it on begin after all that were
abbrev pub invariant-loop-i : goal.invariant-loop-i
invariant-loop-i l = record {
  listed : IsListedTo l.all.items l.covered;
  begun : (j : ℕ) (d : BufferPiece) → l.i ≤ j → j < length l.pieces
      → BeginBy (slice_index_or l.pieces j d).start l.all.items;
  kept : noted_in l.all.items ≡ noted_in (take l.i l.pieces);
}
