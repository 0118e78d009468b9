-- A text that is cut into pieces is read where they are.
use Rattle.std.proofs.Common.{◌≡◌, ℕ, suc, ◌+◌, ◌≤◌, List, ◌∷◌, ◌++◌, map, take, drop, Some, slice_get}
use Rattle.std.proofs.Common.{sym, ap, ap₂, ◌∙◌, arith}
use Rattle.std.specs.List.{slice_range}
use Rattle.std.proofs.lemmas.List.{take-append-drop}
use Rattle.std.proofs.lemmas.List.Folds.{drop_split}
use Rattle.std.proofs.lemmas.Option.{slice_get_within, get_or_from_slice_get}
use Rattle.std.proofs.Math.Seq.{drop-cons}
use Rattle.serde_json.specs.Data.{Data, array, object, no_members}
use Rattle.fb_pieces.specs.Blanks.{AreBlanks}
use Rattle.fb_pieces.specs.Reads.{read_at}
use Rattle.fb_pieces.specs.ArrayOfRuns.{joined}
use Rattle.fb_pieces.specs.ObjectOfMembers.{put_all}
use Rattle.fb_pieces.specs.CutTexts.{run_text, member_texts}
use Rattle.fb_pieces.specs.ReadByPieces.{OpensAt, CutArrayIsRead, CutObjectIsRead}
use Rattle.fb_pieces.proofs.laws.PiecesAreTheText.{runs-forward, members-forward, cut_runs_are_the_text_shown}
use Rattle.fb_pieces.proofs.laws.PiecesAreTheText.{cut_members_are_the_text_shown}
use Rattle.fb_pieces.proofs.laws.RunsMakeTheArray.{runs_make_the_array_shown}
use Rattle.fb_pieces.proofs.laws.RunsMakeTheObject.{members_make_the_object_shown}
use Rattle.fb_pieces.proofs.laws.ReadTextClosesItsStrings.{text-closed}
use Rattle.fb_pieces.proofs.laws.BlanksHaveNoLexemes.{blanks_change_nothing_shown}

-- the text before and behind what stands in brackets
pub around : (text inside : List ℕ) (bracket at end : ℕ) → slice_get text at ≡ Some bracket → at + 1 ≤ end
    → slice_range text (at + 1) end ≡ inside → text ≡ take at text ++ ((bracket ∷ inside) ++ drop end text)
around text inside bracket at end opens forward is =
    let next : suc at ≡ at + 1 = omega arith in
    let behind : drop (at + 1) text ≡ inside ++ drop end text
    = drop_split text (at + 1) end forward ∙ ap (λ l. l ++ drop end text) is in
    let from : drop at text ≡ bracket ∷ (inside ++ drop end text)
    = drop-cons text at 0 (slice_get_within text at bracket opens)
    ∙ ap₂ (λ b l. b ∷ l) (get_or_from_slice_get text at bracket 0 opens) (ap (λ n. drop n text) next ∙ behind) in
    sym (take-append-drop at text) ∙ ap (λ l. take at text ++ l) from

-- what stands in brackets is read with blanks round it, too
read-around : (levels : ℕ) (text inside : List ℕ) (bracket at end : ℕ) (d : Data) → OpensAt text bracket at
    → AreBlanks (drop end text) → at + 1 ≤ end → slice_range text (at + 1) end ≡ inside
    → read_at levels (bracket ∷ inside) ≡ Some d → read_at levels text ≡ Some d
read-around levels text inside bracket at end d before after forward is read =
    ap (read_at levels) (around text inside bracket at end before.opens forward is)
    ∙ blanks_change_nothing_shown levels (take at text) (bracket ∷ inside) (drop end text) before.blanks after
    (text-closed levels (bracket ∷ inside) d read)
    ∙ read

pub cut_array_is_read_shown : CutArrayIsRead
cut_array_is_read_shown levels text run runs rs c reads =
    read-around (suc levels) text _ 91 c.at c.end (array (joined rs)) c.before c.after
    (runs-forward text (c.at + 1) c.end (run ∷ runs) c.cut)
    (cut_runs_are_the_text_shown text (c.at + 1) c.end run runs c.cut)
    (runs_make_the_array_shown levels (run_text text run) (map (run_text text) runs) rs reads)

pub cut_object_is_read_shown : CutObjectIsRead
cut_object_is_read_shown levels text member members ds c reads =
    read-around (suc levels) text _ 123 c.at c.end (object (put_all ds no_members)) c.before c.after
    (members-forward text (c.at + 1) c.end (member ∷ members) c.cut)
    (cut_members_are_the_text_shown text (c.at + 1) c.end member members c.cut)
    (members_make_the_object_shown levels (member_texts text member) (map (member_texts text) members) ds reads)
