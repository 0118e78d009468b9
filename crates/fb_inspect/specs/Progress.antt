-- How far a listing is: which pieces are left, and what a call lists.
use Rattle.std.specs.Prelude.{ℕ, ◌≡◌, ◌<◌, ◌⊎◌, List, drop}
use Rattle.fb_inspect.specs.declared.listing.Listing.{Listing}
use Rattle.fb_inspect.specs.declared.pieces.BufferPiece.{BufferPiece}

-- all pieces of a listing, in order
abbrev pub pieces_of : Listing → List BufferPiece
pieces_of listing = listing.pieces.items

-- the pieces with lines that weren't returned yet
abbrev pub left_of : Listing → List BufferPiece
left_of listing = drop listing.next listing.pieces.items

-- How many details of the first piece left were returned. Its first line comes with the first of them, so 0 says that
-- none of its lines was returned.
abbrev pub details_listed : Listing → ℕ
details_listed listing = listing.detail

-- Lines of the first piece left were returned: the last ones, so that those after it are left, or more of its details.
pub record ListsNext (old new : Listing) : Type 0 where
  pub same : pieces_of new ≡ pieces_of old
  pub goes_on : ((left_of new ≡ drop 1 (left_of old)) × (details_listed new ≡ 0))
      ⊎ ((left_of new ≡ left_of old) × (details_listed old < details_listed new))
