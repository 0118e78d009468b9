-- What was noted of pieces, and of one more.
use Rattle.std.proofs.Common.{ℕ, ◌≡◌, ◌+◌, ◌<◌, Bool, true, false, List, [], ◌∷◌, ◌++◌, ◌∙◌, sym, ap, refl}
use Rattle.std.proofs.Common.{map, take, length, slice_index_or}
use Rattle.std.proofs.Common.{cond}
use Rattle.std.proofs.lemmas.List.{map-append, take_more}
use Rattle.std.proofs.lemmas.List.Elements.{filter-append}
use Rattle.fb_inspect.specs.declared.pieces.BufferPiece.{BufferPiece}
use Rattle.fb_inspect.specs.declared.pieces.What.{What}
use Rattle.fb_inspect.specs.Listings.{head_of, is_noted, noted_in}

-- the head of one that was noted
abbrev noted_head : ℕ × ℕ × What → List (ℕ × ℕ × What)
noted_head head = cond (is_noted head.2) (head ∷ []) []

noted_or_not : (piece : BufferPiece) (noted : Bool)
    → map head_of (cond noted (piece ∷ []) []) ≡ cond noted (head_of piece ∷ []) []
noted_or_not piece true = refl
noted_or_not piece false = refl

noted_one : (piece : BufferPiece) → noted_in (piece ∷ []) ≡ noted_head (head_of piece)
noted_one piece = noted_or_not piece (is_noted piece.what)

pub noted_alone : (piece : BufferPiece) → is_noted piece.what ≡ true → noted_in (piece ∷ []) ≡ head_of piece ∷ []
noted_alone piece noted = noted_one piece ∙ ap (λ b. cond b (head_of piece ∷ []) []) noted

-- its end doesn't count
noted_same : (piece other : BufferPiece) → head_of piece ≡ head_of other → noted_in (piece ∷ []) ≡ noted_in (other ∷ [])
noted_same piece other same = noted_one piece ∙ ap noted_head same ∙ sym (noted_one other)

pub noted_both : (xs ys : List BufferPiece) → noted_in (xs ++ ys) ≡ noted_in xs ++ noted_in ys
noted_both xs ys = ap (map head_of) (filter-append (λ p. is_noted p.what) xs ys) ∙ map-append _ _ _

pub noted_more : (pieces all more : List BufferPiece) (piece d : BufferPiece) (i : ℕ) → i < length pieces
    → head_of piece ≡ head_of (slice_index_or pieces i d) → noted_in all ≡ noted_in (take i pieces)
    → noted_in more ≡ noted_in all ++ noted_in (piece ∷ []) → noted_in more ≡ noted_in (take (i + 1) pieces)
noted_more pieces all more piece d i within same before one =
    let here = noted_same piece (slice_index_or pieces i d) same in
    let all_of : noted_in (take (i + 1) pieces) ≡ noted_in (take i pieces) ++ noted_in (slice_index_or pieces i d ∷ [])
    = ap noted_in (take_more pieces i d within) ∙ noted_both (take i pieces) (slice_index_or pieces i d ∷ []) in
    one ∙ ap (λ l. l ++ noted_in (piece ∷ [])) before ∙ ap (λ l. noted_in (take i pieces) ++ l) here ∙ sym all_of
