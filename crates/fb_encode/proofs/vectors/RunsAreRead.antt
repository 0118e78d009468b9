-- What is read of a run of a vector's elements, and of all runs.
use Rattle.std.proofs.Common.{◌≡◌, ◌∙◌, ◌+◌, ◌-◌, ◌≤◌, ◌<◌, ◌++◌, ◌∷◌, [], ℕ, zero, suc, List, Some, length}
use Rattle.std.proofs.Common.{sym, ap, arith, IsUtf8}
use Rattle.std.specs.List.{All}
use Rattle.std.proofs.lemmas.Option.{slice_get_within}
use Rattle.simdutf8.proofs.StepsLemmas.{IsUtf8-after_ascii, IsUtf8-append_ascii, IsAscii-replicate}
use Rattle.serde_json.specs.Data.{Data, array, Items, no_items, item}
use Rattle.serde_json.specs.Read.{read}
use Rattle.serde_json.specs.View.{items_view}
use Rattle.serde_json.specs.declared.value.Value.{Value as Json}
use Rattle.fb_pieces.specs.declared.cut.Run.{Run}
use Rattle.fb_pieces.specs.ArrayOfElements.{ElementsMakeTheArray}
use Rattle.fb_pieces.specs.ArrayOfRuns.{ReadsRun, ReadRuns}
use Rattle.fb_pieces.specs.CutTexts.{AreRunsOf}
use Rattle.fb_pieces.specs.InBrackets.{TextIsReadWithoutBrackets, in_arrays, in_brackets}
use Rattle.fb_pieces.specs.ReadByPieces.{IsCutIntoRuns}
use Rattle.fb_pieces.specs.Texts.{array_text}
use Rattle.fb_encode.proofs.reader.TextInBrackets.{brackets_more, read_without}
use Rattle.fb_encode.specs.declared.reader.JsonExcerpt.{JsonExcerpt}
use Rattle.fb_encode.specs.SlotTexts.{IsPieceOf}
use Rattle.fb_encode.specs.TextsRead.{IsReadAs, IsRunReadAs}

-- the text between two brackets
utf8_between : (e : List ℕ) → IsUtf8 e → IsUtf8 (array_text e [])
utf8_between e utf8 =
    let before = (IsUtf8-append_ascii e (93 ∷ []) (IsAscii-replicate 1 93 (omega arith))).1 utf8 in
    (IsUtf8-after_ascii (91 ∷ []) (e ++ (93 ∷ [])) (IsAscii-replicate 1 91 (omega arith))).1 before

pub utf8_of_run : (brackets : ℕ) (e : List ℕ) (ds : Items) → IsRunReadAs brackets e ds → IsUtf8 e
utf8_of_run brackets e no_items h = absurd h
utf8_of_run brackets e (item d ds) h =
    let after = (IsUtf8-after_ascii (91 ∷ []) (e ++ (93 ∷ [])) (IsAscii-replicate 1 91 (omega arith))).0 h.utf8 in
    (IsUtf8-append_ascii e (93 ∷ []) (IsAscii-replicate 1 93 (omega arith))).0 after

-- an element that is read alone is a run
pub run_of_element : ElementsMakeTheArray → (brackets : ℕ) (e : List ℕ) (x : JsonExcerpt) → x.text.now ≡ e
    → x.brackets ≡ brackets - 1 → (t : Data) → 0 < brackets → IsReadAs x.brackets x.text.now t
    → IsRunReadAs brackets e (item t no_items)
run_of_element law brackets e x text_is brackets_is t some h =
    let same : suc (brackets - 1) ≡ brackets = omega arith in
    let read = rw (text_is, brackets_is) at h in
    record {
      utf8 = utf8_between e read.utf8;
      read = rw (← same) (law (brackets - 1) e [] (item t no_items) (read.read, tt));
    }

-- a run whose elements are read at once
pub run_of_trees : TextIsReadWithoutBrackets → (brackets : ℕ) (e : List ℕ) (trees : List Json) → brackets ≤ 127
    → IsUtf8 e → read (in_brackets ((127 - brackets) + 1) e) ≡ Some (in_arrays (127 - brackets)
    (array (items_view trees))) → 0 < length trees → IsRunReadAs brackets e (items_view trees)
run_of_trees law brackets e [] low utf8 is some = absurd (omega (arith, some))
run_of_trees law brackets e (v ∷ vs) low utf8 is some =
    let n = 127 - brackets in
    record {
      utf8 = utf8_between e utf8;
      read = read_without law brackets (array_text e []) (array (items_view (v ∷ vs))) low
          (ap read (sym (brackets_more n e)) ∙ is);
    }

-- as the law of an array's runs has it
pub reads_run : (brackets : ℕ) (e : List ℕ) (ds : Items) → 0 < brackets → IsRunReadAs brackets e ds
    → ReadsRun (brackets - 1) e ds
reads_run brackets e no_items some h = absurd h
reads_run brackets e (item d ds) some h =
    let same : brackets ≡ suc (brackets - 1) = omega arith in
    record {
      some = λ none. (let bad : item d ds ≡ no_items = none in cc);
      read = rw (← same) h.read;
    }

-- one run more
pub runs_more : (levels : ℕ) (es : List (List ℕ)) (rs : List Items) (e : List ℕ) (r : Items) → ReadRuns levels es rs
    → ReadsRun levels e r → ReadRuns levels (es ++ (e ∷ [])) (rs ++ (r ∷ []))
runs_more levels [] [] e r before more = (more, tt)
runs_more levels [] (s ∷ rs) e r before more = absurd before
runs_more levels (f ∷ es) [] e r before more = absurd before
runs_more levels (f ∷ es) (s ∷ rs) e r before more = (before.0, runs_more levels es rs e r before.1 more)

-- each run is a part of the text
runs_within : (text : List ℕ) (from end : ℕ) (runs : List Run) → AreRunsOf text from end runs
    → All (λ run. IsPieceOf text run.elements) runs
runs_within text from end [] are i d low = absurd (omega (arith, low))
runs_within text from end (run ∷ runs) are zero d low =
    let within = slice_get_within text run.elements.end _ are.0.before in
    record { forward = omega (arith, are.0.starts, are.0.ends); within = omega (arith, within) }
runs_within text from end (run ∷ runs) are (suc i) d low =
    runs_within text (run.elements.end + 1) end runs are.2 i d (omega (arith, low))

pub all_within : (text : List ℕ) (runs : List Run) → IsCutIntoRuns text runs
    → All (λ run. IsPieceOf text run.elements) runs
all_within text runs cut = runs_within text (cut.at + 1) cut.end runs cut.cut
