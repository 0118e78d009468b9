-- A text that is cut, put together again.
use Rattle.std.specs.Prelude.{◌≡◌, ℕ, ◌+◌, Bool, true, false, List, [], ◌∷◌, ◌++◌, map, slice_range}
use Rattle.fb_pieces.specs.declared.cut.Piece.{Piece}
use Rattle.fb_pieces.specs.declared.cut.Run.{Run}
use Rattle.fb_pieces.specs.declared.cut.Member.{Member}
use Rattle.fb_pieces.specs.Texts.{array_rest, object_rest, member_text}
use Rattle.fb_pieces.specs.Cuts.{IsRunOf, IsMemberOf}

-- the bytes of a piece, of the elements of a run, and of the name and value of a member
abbrev pub piece_text : List ℕ → Piece → List ℕ
piece_text text piece = slice_range text piece.start piece.end

abbrev pub run_text : List ℕ → Run → List ℕ
run_text text run = piece_text text run.elements

abbrev pub member_texts : List ℕ → Member → List ℕ × List ℕ
member_texts text member = (piece_text text member.name, piece_text text member.value)

-- whether the list is empty
abbrev pub is_empty : {X : Type 0} → List X → Bool
is_empty [] = true
is_empty (x ∷ xs) = false

-- The runs follow one another from here. The last is the one whose bracket is before the end.
abbrev pub AreRunsOf : List ℕ → ℕ → ℕ → List Run → Type 0
AreRunsOf text from end [] = from ≡ end
AreRunsOf text from end (run ∷ runs) = IsRunOf text from run × (run.is_last ≡ is_empty runs)
    × AreRunsOf text (run.elements.end + 1) end runs

-- The same of members.
abbrev pub AreMembersOf : List ℕ → ℕ → ℕ → List Member → Type 0
AreMembersOf text from end [] = from ≡ end
AreMembersOf text from end (member ∷ members) = IsMemberOf text from member × (member.is_last ≡ is_empty members)
    × AreMembersOf text (member.value.end + 1) end members

-- Runs that follow one another are, with their commas and the bracket, the text that they are cut from.
abbrev pub CutRunsAreTheText : Type 0
CutRunsAreTheText = (text : List ℕ) (from end : ℕ) (run : Run) (runs : List Run) → AreRunsOf text from end (run ∷ runs)
    → slice_range text from end ≡ run_text text run ++ array_rest (map (run_text text) runs)

-- The same of members with their colons, commas and the brace.
abbrev pub CutMembersAreTheText : Type 0
CutMembersAreTheText = (text : List ℕ) (from end : ℕ) (member : Member) (members : List Member)
    → AreMembersOf text from end (member ∷ members)
    → slice_range text from end
    ≡ member_text (member_texts text member) ++ object_rest (map member_text (map (member_texts text) members))
