-- A piece more has its own bytes too.
use Rattle.std.proofs.Common.{ℕ, ◌≤◌, ◌-◌, max, List, [], ◌∷◌, ◌++◌, ◌∙◌, inl, inr, length, arith, length-append}
use Rattle.std.specs.List.{Any}
use Rattle.std.proofs.lemmas.Bool.{cases_lt}
use Rattle.std.proofs.lemmas.List.{get_or_append_left}
use Rattle.std.proofs.lemmas.List.Elements.{All-push}
use Rattle.std.proofs.lemmas.List.Quantifiers.{Any-push}
use Rattle.std.proofs.lemmas.List.Sorted.{IsNonDecreasingBy-push}
use Rattle.fb_inspect.specs.declared.pieces.BufferPiece.{BufferPiece}
use Rattle.fb_inspect.specs.Covers.{CoversBelow, IsIn}
use Rattle.fb_inspect.specs.Listings.{BeginBy, IsListedTo}

any_more : {X : Type 0} (P : X → Type 0) (xs : List X) (y : X) → Any P xs → Any P (xs ++ y ∷ [])
any_more P xs y (k, x, within, is, holds) =
    (k, x, grind (arith, length-append), get_or_append_left xs (y ∷ []) x k within ∙ is, holds)

-- one that begins where the bytes before it end, or before that
pub covered_more : (pieces : List BufferPiece) (piece : BufferPiece) (covered end : ℕ) → CoversBelow pieces covered
    → piece.start ≤ covered → end ≤ max covered piece.end → CoversBelow (pieces ++ piece ∷ []) end
covered_more pieces piece covered end before near far byte below =
    elim (cases_lt byte covered) [
      | inl low ↦ any_more (IsIn byte) pieces piece (before byte low)
      | inr high ↦ Any-push (IsIn byte) pieces piece (omega arith, omega arith)
    ]

-- after them in the order of their begins
pub listed_more : (pieces : List BufferPiece) (piece : BufferPiece) (covered end : ℕ) → IsListedTo pieces covered
    → BeginBy piece.start pieces → piece.start ≤ covered → piece.start ≤ end → covered ≤ end
    → end ≤ max covered piece.end
    → IsListedTo (pieces ++ piece ∷ []) end
listed_more pieces piece covered end before first near from more far =
    record {
      covers = covered_more pieces piece covered end before.covers near far;
      ordered = IsNonDecreasingBy-push (λ p. p.start) pieces piece before.ordered
          (λ d some. first (length pieces - 1) d (omega arith));
      begun = All-push (λ p. p.start ≤ end) pieces piece
          (λ k d within. let by = before.begun k d within in omega (arith, by)) from;
    }
