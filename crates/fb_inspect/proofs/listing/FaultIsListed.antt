-- A piece that is kept is listed, so that of the fault is.
use Rattle.std.proofs.Common.{ℕ, ◌≡◌, ◌+◌, true, List, [], ◌∷◌, ◌++◌, Contains, take, drop, ap, ◌∙◌, sym, subst, refl}
use Rattle.std.proofs.Common.{take-append-drop, Option, None, Some, IfSome, rules}
use Rattle.std.proofs.lemmas.List.{take_more}
use Rattle.std.proofs.lemmas.List.Elements.{Contains-append_left, Contains-push}
use Rattle.std.proofs.lemmas.List.Sorted.{Contains-permutation}
use Rattle.fb_value.specs.declared.faults.ReadFault.{ReadFault}
use Rattle.fb_inspect.specs.declared.pieces.BufferPiece.{BufferPiece}
use Rattle.fb_inspect.specs.Listings.{IsKeptIn, fault_piece, head_of, is_noted, noted_in, with_fault}
use Rattle.fb_inspect.proofs.cover.OneMoreIsKept.{noted_both, noted_alone}

-- a piece that was noted has its head among those that were
noted_among : (pieces : List BufferPiece) (piece : BufferPiece) → is_noted piece.what ≡ true → Contains pieces piece
    → Contains (noted_in pieces) (head_of piece)
noted_among pieces piece noted (k, within, is) =
    let front : take (k + 1) pieces ≡ take k pieces ++ piece ∷ [] =
    take_more pieces k piece within ∙ ap (λ p. take k pieces ++ p ∷ []) is in
    let all : pieces ≡ (take k pieces ++ piece ∷ []) ++ drop (k + 1) pieces =
    sym (take-append-drop (k + 1) pieces) ∙ ap (λ l. l ++ drop (k + 1) pieces) front in
    let heads : noted_in pieces ≡ (noted_in (take k pieces) ++ head_of piece ∷ []) ++ noted_in (drop (k + 1) pieces) =
    ap noted_in all ∙ noted_both (take k pieces ++ piece ∷ []) (drop (k + 1) pieces)
    ∙ ap (λ l. l ++ noted_in (drop (k + 1) pieces))
    (noted_both (take k pieces) (piece ∷ []) ∙ ap (λ l. noted_in (take k pieces) ++ l) (noted_alone piece noted)) in
    subst (λ l. Contains l (head_of piece)) (sym heads)
    (Contains-append_left (noted_in (take k pieces) ++ head_of piece ∷ []) _ _
    (Contains-push (noted_in (take k pieces)) (head_of piece)))

pub fault_is_listed : (len : ℕ) (fault : Option ReadFault) (pieces all : List BufferPiece)
    → IsKeptIn (with_fault len fault pieces) all
    → IfSome fault (λ f. Contains (noted_in all) (head_of (fault_piece len f)))
fault_is_listed len None pieces all kept = search rules
fault_is_listed len (Some f) pieces all kept =
    subst (λ l. Contains l (head_of (fault_piece len f))) (sym kept.kept)
    (noted_among kept.sorted (fault_piece len f) refl
    (Contains-permutation _ kept.sorted (fault_piece len f) kept.same (Contains-push pieces (fault_piece len f))))
