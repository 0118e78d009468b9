-- The runs of a vector's elements are noted one after the other.
use Rattle.std.proofs.Common.{◌≡◌, ◌∙◌, ◌+◌, ◌-◌, ◌<◌, ◌++◌, ◌∷◌, [], ℕ, zero, suc, Bool, List, Result, Ok, Err}
use Rattle.std.proofs.Common.{length, map, take, drop, get_or, refl, sym, subst, ap, arith, append_assoc, IsUtf8}
use Rattle.std.proofs.lemmas.List.{append-nil, map-append, take-append-drop, take_more}
use Rattle.std.proofs.lemmas.List.Elements.{All-append, All-head, All-tail}
use Rattle.std.proofs.lemmas.List.Sums.{sum_by_push}
use Rattle.std.specs.List.{All}
use Rattle.serde_json.specs.Data.{Items, no_items}
use Rattle.fb_schema.specs.declared.kinds.Kind.{Kind}
use Rattle.fb_layout.specs.Laid.{LaidSchema, stored_kind}
use Rattle.fb_value.specs.Datum.{Datum}
use Rattle.fb_tape.specs.Tapes.{Taped}
use Rattle.fb_json.specs.declared.faults.Place.{Place}
use Rattle.fb_json.specs.declared.faults.JsonFault.{JsonFault}
use Rattle.fb_json.specs.Meant.{count, items_meant}
use Rattle.fb_json.specs.Outcome.{Counted, Fails}
use Rattle.fb_json.proofs.slots.OneSlotOrFieldMore.{fails_by, fails_is}
use Rattle.fb_pieces.specs.declared.cut.Run.{Run}
use Rattle.fb_pieces.specs.ArrayOfRuns.{ReadRuns, append, joined}
use Rattle.fb_pieces.specs.CutTexts.{run_text}
use Rattle.fb_encode.proofs.vectors.ElementsFollow.{count-append, fault_then, given_of, given_then, joined-more}
use Rattle.fb_encode.proofs.vectors.ElementsFollow.{AreAddedInTurn, added_then}
use Rattle.fb_encode.proofs.vectors.RunsAreRead.{reads_run, runs_more, utf8_of_run}
use Rattle.fb_encode.specs.TextsRead.{AreElementsAddedOr, AreRunsRead, IsRunRead, elements_in}

one_utf8 : (e : List ℕ) → IsUtf8 e → All IsUtf8 (e ∷ [])
one_utf8 e utf8 zero d low = utf8
one_utf8 e utf8 (suc k) d low = absurd (omega (arith, low))

module _ (L : LaidSchema) (AddsAll : Taped → Taped → List Datum → Type 0) (unknown : Bool) (kind : Kind) (at : Place)
    (levels : ℕ) (start : Result ℕ JsonFault) (brackets : ℕ) (text : List ℕ) where
  abbrev given : Items → Counted (List Datum)
  given ds = given_of L unknown kind at levels ds start

  -- These runs are read as items, and those are added after what was there; or this is their fault.
  pub record AreRunsNoted (runs : List Run) (a b : Taped) (found : Result ℕ JsonFault) : Type 0 where
    pub items : List Items
    pub read : ReadRuns (brackets - 1) (map (run_text text) runs) items
    pub utf8 : All IsUtf8 (map (run_text text) runs)
    pub count_is : count (joined items) ≡ elements_in runs
    pub noted : AreElementsAddedOr L (stored_kind L.schema kind) AddsAll
        (given_of L unknown kind at levels (joined items) start) (count (joined items)) a b found

  -- no run
  pub none_noted : (a : Taped) → AddsAll a a [] → (found : Result ℕ JsonFault) → found ≡ start
      → AreRunsNoted [] a a found
  none_noted a none found is = record {
    items = [];
    read = tt;
    utf8 = λ k d low. absurd (omega (arith, low));
    count_is = refl;
    noted = by found is;
  }
    where
      by : (s : Result ℕ JsonFault) → s ≡ start → AreElementsAddedOr L (stored_kind L.schema kind) AddsAll
          (given_of L unknown kind at levels no_items start) 0 a a s
      by (Err f) same = fails_is f (given no_items) (ap (given_of L unknown kind at levels no_items) (sym same))
      by (Ok n) same = record {
        elements = [];
        given_is = ap (given_of L unknown kind at levels no_items) (sym same);
        count_is = refl;
        fits = λ k d at. cc;
        adds = none;
      }

  -- one run more, after which this was found
  with_run : (runs : List Run) (run : Run) (a b c : Taped) (found now : Result ℕ JsonFault) → 0 < brackets
      → (h : AreRunsNoted runs a b found) → (es : Items) → IsRunRead brackets text run es
      → AreElementsAddedOr L (stored_kind L.schema kind) AddsAll (given (append (joined h.items) es))
      (count (joined h.items) + count es) a c now → AreRunsNoted (runs ++ (run ∷ [])) a c now
  with_run runs run a b c found now some h es is added =
      let e = run_text text run in
      let turned : map (run_text text) (runs ++ (run ∷ [])) ≡ map (run_text text) runs ++ (e ∷ []) =
      map-append (run_text text) runs (run ∷ []) in
      let whole : joined (h.items ++ (es ∷ [])) ≡ append (joined h.items) es = joined-more h.items es in
      let sum : count (joined (h.items ++ (es ∷ []))) ≡ count (joined h.items) + count es =
      ap count whole ∙ count-append (joined h.items) es in
      record {
        items = h.items ++ (es ∷ []);
        read = rw turned (runs_more (brackets - 1) (map (run_text text) runs) h.items e es h.read
            (reads_run brackets e es some is.read));
        utf8 = rw turned (All-append IsUtf8 (map (run_text text) runs) (e ∷ []) h.utf8
            (one_utf8 e (utf8_of_run brackets e es is.read)));
        count_is = omega (arith, sum, h.count_is, is.counted, sum_by_push (λ (r : Run). r.count) runs run);
        noted = rw whole (rw (count-append (joined h.items) es) added);
      }

  -- after runs without a fault
  pub one_more_noted : AreAddedInTurn AddsAll → (runs : List Run) (i : ℕ) (d : Run) (a b c : Taped) (left : ℕ)
      (now : Result ℕ JsonFault) → i < length runs → 0 < brackets → AreRunsNoted (take i runs) a b (Ok left)
      → (es : Items) → IsRunRead brackets text (get_or runs i d) es
      → AreElementsAddedOr L (stored_kind L.schema kind) AddsAll (items_meant L unknown es kind at levels left)
      (count es) b c now → AreRunsNoted (take (i + 1) runs) a c now
  one_more_noted turn runs i d a b c left now low some h es is added =
      let ds = joined h.items in
      rw (take_more runs i d low) (with_run (take i runs) (get_or runs i d) a b c (Ok left) now some h es is
      (added_then L (stored_kind L.schema kind) AddsAll turn (given ds) (items_meant L unknown es kind at levels left)
      (given (append ds es)) (count ds) (count es) a b c left h.noted
      (given_then L unknown kind at levels ds es start h.noted.elements left h.noted.given_is) now added))

  -- after a fault
  rest_read : (runs rest : List Run) (a b : Taped) (f : JsonFault) → 0 < brackets → AreRunsNoted runs a b (Err f)
      → AreRunsRead brackets text rest → AreRunsNoted (runs ++ rest) a b (Err f)
  rest_read runs [] a b f some h read =
      subst (λ (rs : List Run). AreRunsNoted rs a b (Err f)) (sym (append-nil runs)) h
  rest_read runs (run ∷ rest) a b f some h read =
      let here = All-head (λ (r : Run). (ds : Items) × IsRunRead brackets text r ds) run rest read in
      let ds = joined h.items in
      let fails = fails_by f (given ds) (given (append ds here.0))
      (fault_then L unknown kind at levels ds here.0 start f) h.noted in
      let more = with_run runs run a b b (Err f) (Err f) some h here.0 here.1 fails in
      subst (λ (rs : List Run). AreRunsNoted rs a b (Err f)) (append_assoc runs (run ∷ []) rest)
      (rest_read (runs ++ (run ∷ [])) rest a b f some more
      (All-tail (λ (r : Run). (ds : Items) × IsRunRead brackets text r ds) run rest read))

  -- no cells for all runs
  pub first_fails : (runs : List Run) (a : Taped) → AddsAll a a [] → (f : JsonFault) → Err f ≡ start → 0 < brackets
      → AreRunsRead brackets text runs → AreRunsNoted runs a a (Err f)
  first_fails runs a none f is some read = rest_read [] runs a a f some (none_noted a none (Err f) is) read

  -- a fault in one of the runs
  pub run_fails : AreAddedInTurn AddsAll → (runs : List Run) (i : ℕ) (d : Run) (a b c : Taped) (left : ℕ)
      (f : JsonFault) → i < length runs → 0 < brackets → AreRunsNoted (take i runs) a b (Ok left)
      → (es : Items) → IsRunRead brackets text (get_or runs i d) es
      → Fails f (items_meant L unknown es kind at levels left) → AreRunsRead brackets text (drop (i + 1) runs)
      → AreRunsNoted runs a c (Err f)
  run_fails turn runs i d a b c left f low some h es is fails read =
      subst (λ (rs : List Run). AreRunsNoted rs a c (Err f)) (take-append-drop (i + 1) runs)
      (rest_read (take (i + 1) runs) (drop (i + 1) runs) a c f some
      (one_more_noted turn runs i d a b c left (Err f) low some h es is fails) read)
