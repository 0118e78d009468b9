-- UTF-8 with ASCII between is UTF-8.
use Rattle.std.proofs.Common.{◌≡◌, ℕ, ◌+◌, ◌<◌, ◌≤◌, List, [], ◌∷◌, ◌++◌, map, take, drop}
use Rattle.std.proofs.Common.{sym, arith, subst, IsUtf8}
use Rattle.std.specs.List.{All, list_all, slice_range}
use Rattle.std.proofs.lemmas.Bool.{and_parts}
use Rattle.std.proofs.lemmas.List.Elements.{All-nil, All-cons, All-head, All-tail}
use Rattle.std.proofs.lemmas.Str.{IsUtf8-append, IsUtf8-from_ascii, IsUtf8-nil}
use Rattle.std.proofs.lemmas.Str.Ascii.{IsAscii-from_all}
use Rattle.json.specs.Word.{is_space}
use Rattle.fb_pieces.specs.Blanks.{AreBlanks}
use Rattle.fb_pieces.specs.Texts.{array_rest, object_rest, member_text}
use Rattle.fb_pieces.specs.CutTexts.{run_text, member_texts}
use Rattle.fb_pieces.specs.CutTextsAreUtf8.{CutArrayIsUtf8, CutObjectIsUtf8}
use Rattle.fb_pieces.specs.ReadByPieces.{OpensAt}
use Rattle.fb_pieces.proofs.laws.PiecesAreTheText.{runs-forward, members-forward, cut_runs_are_the_text_shown}
use Rattle.fb_pieces.proofs.laws.PiecesAreTheText.{cut_members_are_the_text_shown}
use Rattle.fb_pieces.proofs.laws.TextIsReadByItsPieces.{around}
use Rattle.fb_pieces.proofs.laws.WordEndsAtADelimiter.{of_space}

behind-ascii : (b : ℕ) (text : List ℕ) → b < 128 → IsUtf8 text → IsUtf8 (b ∷ text)
behind-ascii b text small is =
    IsUtf8-append (b ∷ []) text
    (IsUtf8-from_ascii (b ∷ [])
    (IsAscii-from_all (b ∷ []) (All-cons (λ y. y < 128) b [] small (All-nil (λ y. y < 128))))) is

blanks_are_utf8 : (blanks : List ℕ) → AreBlanks blanks → IsUtf8 blanks
blanks_are_utf8 [] h = IsUtf8-nil
blanks_are_utf8 (x ∷ blanks) h =
    let p = and_parts (is_space x) (list_all is_space blanks) h in
    behind-ascii x blanks
    (of_space (λ y. y < 128) (omega arith) (omega arith) (omega arith) (omega arith) x p.0)
    (blanks_are_utf8 blanks p.1)

array_rest_is_utf8 : (es : List (List ℕ)) → All IsUtf8 es → IsUtf8 (array_rest es)
array_rest_is_utf8 [] h = behind-ascii 93 [] (omega arith) IsUtf8-nil
array_rest_is_utf8 (e ∷ es) h =
    behind-ascii 44 (e ++ array_rest es) (omega arith)
    (IsUtf8-append e (array_rest es) (All-head IsUtf8 e es h) (array_rest_is_utf8 es (All-tail IsUtf8 e es h)))

member_is_utf8 : (m : List ℕ × List ℕ) → IsUtf8 m.0 → IsUtf8 m.1 → IsUtf8 (member_text m)
member_is_utf8 m name value =
    IsUtf8-append m.0 (58 ∷ m.1) name (behind-ascii 58 m.1 (omega arith) value)

object_rest_is_utf8 : (ms : List (List ℕ × List ℕ)) → All (λ m. IsUtf8 m.0 × IsUtf8 m.1) ms
    → IsUtf8 (object_rest (map member_text ms))
object_rest_is_utf8 [] h = behind-ascii 125 [] (omega arith) IsUtf8-nil
object_rest_is_utf8 (m ∷ ms) h =
    let here = All-head (λ m. IsUtf8 m.0 × IsUtf8 m.1) m ms h in
    let behind = All-tail (λ m. IsUtf8 m.0 × IsUtf8 m.1) m ms h in
    behind-ascii 44 (member_text m ++ object_rest (map member_text ms)) (omega arith)
    (IsUtf8-append (member_text m) (object_rest (map member_text ms)) (member_is_utf8 m here.0 here.1)
    (object_rest_is_utf8 ms behind))

-- what stands in brackets is UTF-8 with blanks round it, too
utf8-around : (text inside : List ℕ) (bracket at end : ℕ) → bracket < 128 → OpensAt text bracket at
    → AreBlanks (drop end text) → at + 1 ≤ end → slice_range text (at + 1) end ≡ inside → IsUtf8 inside → IsUtf8 text
utf8-around text inside bracket at end small before after forward is utf8 =
    subst IsUtf8 (sym (around text inside bracket at end before.opens forward is))
    (IsUtf8-append (take at text) ((bracket ∷ inside) ++ drop end text) (blanks_are_utf8 (take at text) before.blanks)
    (IsUtf8-append (bracket ∷ inside) (drop end text) (behind-ascii bracket inside small utf8)
    (blanks_are_utf8 (drop end text) after)))

pub cut_array_is_utf8_shown : CutArrayIsUtf8
cut_array_is_utf8_shown text run runs c utf8 =
    let es = map (run_text text) runs in
    utf8-around text _ 91 c.at c.end (omega arith) c.before c.after
    (runs-forward text (c.at + 1) c.end (run ∷ runs) c.cut)
    (cut_runs_are_the_text_shown text (c.at + 1) c.end run runs c.cut)
    (IsUtf8-append (run_text text run) (array_rest es) (All-head IsUtf8 (run_text text run) es utf8)
    (array_rest_is_utf8 es (All-tail IsUtf8 (run_text text run) es utf8)))

pub cut_object_is_utf8_shown : CutObjectIsUtf8
cut_object_is_utf8_shown text member members c utf8 =
    let m = member_texts text member in
    let ms = map (member_texts text) members in
    let here = All-head (λ m. IsUtf8 m.0 × IsUtf8 m.1) m ms utf8 in
    utf8-around text _ 123 c.at c.end (omega arith) c.before c.after
    (members-forward text (c.at + 1) c.end (member ∷ members) c.cut)
    (cut_members_are_the_text_shown text (c.at + 1) c.end member members c.cut)
    (IsUtf8-append (member_text m) (object_rest (map member_text ms)) (member_is_utf8 m here.0 here.1)
    (object_rest_is_utf8 ms (All-tail (λ m. IsUtf8 m.0 × IsUtf8 m.1) m ms utf8)))
