-- Pieces with the bytes between them are the text.
use Rattle.std.proofs.Common.{◌≡◌, ◌≤◌, ℕ, suc, ◌+◌, Bool, true, false, List, [], ◌∷◌, ◌++◌, map, drop}
use Rattle.std.proofs.Common.{sym, ap, ap₂, ◌∙◌, arith, append_assoc}
use Rattle.std.specs.List.{slice_range}
use Rattle.std.proofs.lemmas.List.{append_cancel_right}
use Rattle.std.proofs.lemmas.List.Folds.{drop_split}
use Rattle.std.proofs.lemmas.Option.{slice_get_within, get_or_from_slice_get}
use Rattle.std.proofs.Math.Seq.{drop-cons}
use Rattle.fb_pieces.specs.declared.cut.Piece.{Piece}
use Rattle.fb_pieces.specs.declared.cut.Run.{Run}
use Rattle.fb_pieces.specs.declared.cut.Member.{Member}
use Rattle.fb_pieces.specs.Texts.{array_rest, object_rest, member_text}
use Rattle.fb_pieces.specs.Cuts.{StandsBefore, IsRunOf, IsMemberOf}
use Rattle.fb_pieces.specs.CutTexts.{piece_text, is_empty, AreRunsOf, AreMembersOf, run_text, member_texts}
use Rattle.fb_pieces.specs.CutTexts.{CutRunsAreTheText, CutMembersAreTheText}

piece-then : (text : List ℕ) (from edge : ℕ) (piece : Piece) → StandsBefore text from edge piece
    → drop from text ≡ piece_text text piece ++ edge ∷ drop (piece.end + 1) text
piece-then text from edge piece s =
    let cut = drop-cons text piece.end 0 (slice_get_within text piece.end edge s.before) in
    let here = get_or_from_slice_get text piece.end edge 0 s.before in
    let next : suc piece.end ≡ piece.end + 1 = omega arith in
    drop_split text from piece.end s.ends
    ∙ ap₂ (λ n l. slice_range text n piece.end ++ l) (sym s.starts)
    (cut ∙ ap₂ (λ b n. b ∷ drop n text) here next)

-- a run before its separator, and the runs behind it
run-then : (text : List ℕ) (from end : ℕ) (elements : Piece) (n : ℕ) (b : Bool) (runs : List Run)
    → IsRunOf text from (record { elements = elements; count = n; is_last = b }) → b ≡ is_empty runs
    → AreRunsOf text (elements.end + 1) end runs
    → drop from text ≡ piece_text text elements ++ (array_rest (map (run_text text) runs) ++ drop end text)
run-then text from end elements n true [] s ends more =
    piece-then text from 93 elements s ∙ ap (λ m. piece_text text elements ++ 93 ∷ drop m text) more
run-then text from end elements n true (r ∷ rs) s ends more = absurd cc
run-then text from end elements n false [] s ends more = absurd cc
run-then text from end elements n false (r ∷ rs) s ends more =
    piece-then text from 44 elements s
    ∙ ap (λ l. piece_text text elements ++ 44 ∷ l)
    (run-then text (elements.end + 1) end r.elements r.count r.is_last rs more.0 more.1 more.2
    ∙ sym (append_assoc (run_text text r) (array_rest (map (run_text text) rs)) (drop end text)))

pub runs-forward : (text : List ℕ) (from end : ℕ) (runs : List Run) → AreRunsOf text from end runs → from ≤ end
runs-forward text from end [] same = omega arith
runs-forward text from end (run ∷ runs) r =
    omega (arith, r.0.ends, runs-forward text (run.elements.end + 1) end runs r.2)

-- what stands before the rest of a text is cut off
cut-off : (text xs : List ℕ) (from end : ℕ) → from ≤ end → drop from text ≡ xs ++ drop end text
    → slice_range text from end ≡ xs
cut-off text xs from end forward e =
    append_cancel_right (slice_range text from end) xs (drop end text) (sym (drop_split text from end forward) ∙ e)

pub cut_runs_are_the_text_shown : CutRunsAreTheText
cut_runs_are_the_text_shown text from end run runs r =
    cut-off text _ from end (runs-forward text from end (run ∷ runs) r)
    (run-then text from end run.elements run.count run.is_last runs r.0 r.1 r.2
    ∙ sym (append_assoc (run_text text run) (array_rest (map (run_text text) runs)) (drop end text)))

name-then : (text : List ℕ) (from : ℕ) (member : Member) (rest : List ℕ) → IsMemberOf text from member
    → drop (member.name.end + 1) text ≡ piece_text text member.value ++ rest
    → drop from text ≡ member_text (member_texts text member) ++ rest
name-then text from member rest m value =
    piece-then text from 58 member.name m.name
    ∙ ap (λ l. piece_text text member.name ++ 58 ∷ l) value
    ∙ sym (append_assoc (piece_text text member.name) (58 ∷ piece_text text member.value) rest)

member-then : (text : List ℕ) (from end : ℕ) (name value : Piece) (b : Bool) (members : List Member)
    → IsMemberOf text from (record { name = name; value = value; is_last = b }) → b ≡ is_empty members
    → AreMembersOf text (value.end + 1) end members
    → drop from text ≡ member_text (piece_text text name, piece_text text value)
    ++ (object_rest (map member_text (map (member_texts text) members)) ++ drop end text)
member-then text from end name value true [] m ends more =
    name-then text from _ _ m
    (piece-then text (name.end + 1) 125 value m.value ∙ ap (λ n. piece_text text value ++ 125 ∷ drop n text) more)
member-then text from end name value true (r ∷ rs) m ends more = absurd cc
member-then text from end name value false [] m ends more = absurd cc
member-then text from end name value false (r ∷ rs) m ends more =
    name-then text from _ _ m
    (piece-then text (name.end + 1) 44 value m.value
    ∙ ap (λ l. piece_text text value ++ 44 ∷ l)
    (member-then text (value.end + 1) end r.name r.value r.is_last rs more.0 more.1 more.2
    ∙ sym
    (append_assoc (member_text (member_texts text r)) (object_rest (map member_text (map (member_texts text) rs)))
    (drop end text))))

pub members-forward : (text : List ℕ) (from end : ℕ) (members : List Member) → AreMembersOf text from end members
    → from ≤ end
members-forward text from end [] same = omega arith
members-forward text from end (m ∷ members) r =
    omega (arith, r.0.name.ends, r.0.value.ends, members-forward text (m.value.end + 1) end members r.2)

pub cut_members_are_the_text_shown : CutMembersAreTheText
cut_members_are_the_text_shown text from end member members r =
    cut-off text _ from end (members-forward text from end (member ∷ members) r)
    (member-then text from end member.name member.value member.is_last members r.0 r.1 r.2
    ∙ sym
    (append_assoc (member_text (member_texts text member))
    (object_rest (map member_text (map (member_texts text) members))) (drop end text)))
