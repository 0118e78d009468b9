-- The names and values of members that a text is cut into are parts of it.
use Rattle.std.proofs.Common.{◌<◌, ◌+◌, ℕ, zero, suc, List, [], ◌∷◌, length, get_or, arith}
use Rattle.std.proofs.lemmas.Option.{slice_get_within}
use Rattle.json.specs.Ascii as ascii
use Rattle.fb_pieces.specs.declared.cut.Member.{Member}
use Rattle.fb_pieces.specs.declared.cut.Piece.{Piece}
use Rattle.fb_pieces.specs.Cuts.{StandsBefore}
use Rattle.fb_pieces.specs.CutTexts.{AreMembersOf}
use Rattle.fb_encode.specs.SlotTexts.{IsPieceOf}

stands_in : (text : List ℕ) (from edge : ℕ) (piece : Piece) → StandsBefore text from edge piece → IsPieceOf text piece
stands_in text from edge piece stands =
    let inside = slice_get_within text piece.end edge stands.before in
    record { forward = omega (arith, stands.starts, stands.ends); within = omega (arith, inside) }

pub member_within : (text : List ℕ) (from end : ℕ) (members : List Member) → AreMembersOf text from end members
    → (i : ℕ) (d : Member) → i < length members
    → IsPieceOf text (get_or members i d).name × IsPieceOf text (get_or members i d).value
member_within text from end [] cut i d within = absurd (omega (arith, within))
member_within text from end (m ∷ ms) cut zero d within =
    (stands_in text from ascii.colon m.name cut.0.name, stands_in text (m.name.end + 1) _ m.value cut.0.value)
member_within text from end (m ∷ ms) cut (suc i) d within =
    member_within text (m.value.end + 1) end ms cut.2 i d (omega (arith, within))
