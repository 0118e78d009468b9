-- A vector whose runs are read and noted is read and noted.
use Rattle.std.proofs.Common.{◌≡◌, ◌∙◌, ◌+◌, ◌-◌, ◌≤◌, ◌<◌, ◌++◌, ◌∷◌, [], ℕ, suc, Bool, List, Result, Ok, Err}
use Rattle.std.proofs.Common.{length, false, map, take, refl, sym, ap, arith, IsUtf8}
use Rattle.std.proofs.lemmas.List.{take_all}
use Rattle.std.specs.List.{All}
use Rattle.serde_json.specs.Data.{Data, array, Items}
use Rattle.fb_schema.specs.declared.kinds.Kind.{Kind}
use Rattle.fb_schema.specs.declared.kinds.Shape.TheVariants.{Many}
use Rattle.fb_layout.specs.Laid.{LaidSchema, one_of, stored_kind, vector_of}
use Rattle.fb_value.specs.Datum.{Datum, a_vector}
use Rattle.fb_value.specs.Room.{vector_room}
use Rattle.fb_value.specs.View.{parts_in}
use Rattle.fb_value.specs.UpTo.{at_most_usize}
use Rattle.fb_value.specs.Places.{vector_part}
use Rattle.fb_value.proofs.types.PartsByTheirIndex.{count_parts}
use Rattle.fb_tape.specs.NamedParts.{NamedPart, elements_apart}
use Rattle.fb_tape.specs.Tapes.{Taped, Waits}
use Rattle.fb_json.specs.declared.faults.JsonFault.{JsonFault}
use Rattle.fb_json.specs.declared.faults.Place.{Place}
use Rattle.fb_json.specs.Meant.{count, items_meant, meant, vector_meant}
use Rattle.fb_json.specs.Outcome.{◌>>=◌, Counted, spent}
use Rattle.fb_build.specs.Fields.{IsElement, is_reference}
use Rattle.fb_build.specs.Items.{ItemsKnown}
use Rattle.fb_build.proofs.noted.OneMoreFits.{elements_fit}
use Rattle.fb_build.proofs.noted.PartsFollow.{elements_known}
use Rattle.fb_pieces.specs.declared.cut.Run.{Run}
use Rattle.fb_pieces.specs.ArrayOfRuns.{ReadRuns, joined}
use Rattle.fb_pieces.specs.CutTexts.{run_text}
use Rattle.fb_pieces.specs.CutTextsAreUtf8.{CutArrayIsUtf8}
use Rattle.fb_pieces.specs.ReadByPieces.{CutArrayIsRead, IsCutIntoRuns}
use Rattle.fb_encode.proofs.elements.InlineVectorIsNoted.{Begins, Closes, inline_vector_noted}
use Rattle.fb_encode.proofs.parts.ArrayIsNoted.{bound, vector_refused}
use Rattle.fb_encode.proofs.vectors.ElementsFollow.{given_of}
use Rattle.fb_encode.proofs.vectors.RunsAreNoted.{AreRunsNoted}
use Rattle.fb_encode.specs.TextsRead.{IsNotedOr, IsReadAs, elements_in}
use Rattle.fb_encode.specs.TreesNoted.{AddsInline, AddsTargets, IsNoted, vector_given}

all_bound : (s : Result ℕ JsonFault) (items : ℕ → Counted (List Datum))
    → (s >>= λ left. items left >>= λ xs. Ok (a_vector (parts_in xs.0), xs.1))
    ≡ vector_given (s >>= λ left. items left)
all_bound (Err e) items = refl
all_bound (Ok n) items = bound (items n)

read_of : (brackets : ℕ) (text : List ℕ) (runs : List Run) (rs : List Items) → CutArrayIsRead → CutArrayIsUtf8
    → IsCutIntoRuns text runs → 0 < brackets → 0 < count (joined rs)
    → ReadRuns (brackets - 1) (map (run_text text) runs) rs → All IsUtf8 (map (run_text text) runs)
    → IsReadAs brackets text (array (joined rs))
read_of brackets text [] [] law utf8_law cut some elements read utf8 = absurd (omega (arith, elements))
read_of brackets text [] (r ∷ rs) law utf8_law cut some elements read utf8 = absurd read
read_of brackets text (run ∷ runs) rs law utf8_law cut some elements read utf8 =
    let same : suc (brackets - 1) ≡ brackets = omega arith in
    record {
      utf8 = utf8_law text run runs cut utf8;
      read = rw (← same) (law (brackets - 1) text run runs rs cut read);
    }

-- under a layout, a vector of references waits in the place of what its elements name
abbrev pub Refers : Kind → ℕ → Taped → Taped → LaidSchema → Type 0
Refers kind total b c L = (others : List NamedPart) (ds : List Datum) → total ≡ length ds
    → ItemsKnown L (stored_kind L.schema kind) ds
    → Waits b (others ++ elements_apart (stored_kind L.schema kind) ds) → Waits c (others ++ (record {
      target = vector_part (stored_kind L.schema kind);
      value = a_vector (parts_in ds);
    } ∷ []))

-- what an array gives
module _ (L : LaidSchema) (unknown : Bool) (kind : Kind) (at : Place) (levels left total : ℕ) where
  array_meant : (ds : Items) → total ≡ count ds → meant L unknown (array ds) (Many kind) at levels left
      ≡ vector_given (given_of L unknown kind at levels ds (spent (1 + total) at left))
  unfolding vector_meant
  array_meant ds is =
      all_bound (spent (1 + count ds) at left) (λ n. items_meant L unknown ds kind at levels n)
      ∙ ap (λ (n : ℕ). vector_given (given_of L unknown kind at levels ds (spent (1 + n) at left))) (sym is)

module _ (L : LaidSchema) (AddsAll : Taped → Taped → List Datum → Type 0) (unknown : Bool) (kind : Kind) (at : Place)
    (levels left brackets : ℕ) (text : List ℕ) (total : ℕ) (runs : List Run) (a b : Taped) where
  abbrev pub Noted : Result ℕ JsonFault → Type 0
  Noted found = AreRunsNoted L AddsAll unknown kind at levels (spent (1 + total) at left) brackets text runs a b found

  -- the loop over the runs is at its end
  pub all_noted : (i : ℕ) (found : Result ℕ JsonFault) → length runs ≤ i
      → AreRunsNoted L AddsAll unknown kind at levels (spent (1 + total) at left) brackets text (take i runs) a b found
      → Noted found
  all_noted i found past h =
      let all : take i runs ≡ runs = take_all i runs past in
      rw all at h

  module _ (law : CutArrayIsRead) (utf8_law : CutArrayIsUtf8) (cut : IsCutIntoRuns text runs) (within : 0 < brackets)
      (total_is : total ≡ elements_in runs) (some : 0 < elements_in runs) where
    pub runs_read : (found : Result ℕ JsonFault) → (h : Noted found) → IsReadAs brackets text (array (joined h.items))
    runs_read found h =
        read_of brackets text runs h.items law utf8_law cut within (omega (arith, some, h.count_is)) h.read h.utf8

    -- its fault
    pub vector_fails : (c d : Taped) (f : JsonFault) → Noted (Err f) → (t : Data) × IsReadAs brackets text t
        × IsNotedOr L (vector_of (stored_kind L.schema kind)) (meant L unknown t (Many kind) at levels left) c d (Err f)
    vector_fails c d f h = (
      array (joined h.items),
      runs_read (Err f) h,
      rw (array_meant L unknown kind at levels left total (joined h.items) (omega (arith, total_is, h.count_is)))
          (vector_refused (given_of L unknown kind at levels (joined h.items) (spent (1 + total) at left)) f h.noted),
    )

module _ (L : LaidSchema) (unknown : Bool) (kind : Kind) (at : Place) (levels left brackets : ℕ) (text : List ℕ)
    (total : ℕ) (runs : List Run) (a b : Taped) (c : Taped) (rest : ℕ)
    (element : IsElement L (stored_kind L.schema kind)) (law : CutArrayIsRead) (utf8_law : CutArrayIsUtf8)
    (cut : IsCutIntoRuns text runs) (within : 0 < brackets) (total_is : total ≡ elements_in runs)
    (some : 0 < elements_in runs) where
  abbrev VectorIsNoted : Taped → Type 0
  VectorIsNoted before = (t : Data) × IsReadAs brackets text t × IsNoted L (vector_of (stored_kind L.schema kind))
      (meant L unknown t (Many kind) at levels left) before c rest

  -- a vector of texts or tables
  pub vector_noted : Refers kind total b c L
      → c.room ≡ at_most_usize (b.room + vector_room L (stored_kind L.schema kind) total) → c.layout ≡ b.layout
      → c.unfinished ≡ [] → Noted L (AddsTargets L (stored_kind L.schema kind)) unknown kind at levels left
      brackets text total runs a b (Ok rest) → VectorIsNoted a
  vector_noted pushed room layout whole h =
      let k = stored_kind L.schema kind in
      let ds = h.noted.elements in
      let fit = elements_fit L k ds h.noted.fits in
      let same : total ≡ count (joined h.items) = omega (arith, total_is, h.count_is) in
      let long : total ≡ length ds = omega (arith, same, h.noted.count_is) in (
        array (joined h.items),
        runs_read L (AddsTargets L k) unknown kind at levels left brackets text total runs a b law utf8_law cut within
            total_is some (Ok rest) h,
        record {
          value = a_vector (parts_in ds);
          given_is = array_meant L unknown kind at levels left total (joined h.items) same
              ∙ ap vector_given h.noted.given_is;
          fits = fit.0;
          whole = fit.1;
          adds = record {
            waits = λ others w. pushed others ds long (elements_known L k ds element h.noted.fits)
                (h.noted.adds.waits others w);
            sum = omega (arith, h.noted.adds.sum, room, ap (vector_room L k) (count_parts ds ∙ sym long));
            layout = layout ∙ h.noted.adds.layout;
            whole = whole;
          };
        },
      )

  -- a vector of numbers or structs, which was begun on the tape a before
  pub inline_noted : (before : Taped) → is_reference (one_of (stored_kind L.schema kind)) ≡ false
      → Begins kind total before a L → Closes kind total b c L
      → Noted L (AddsInline L (stored_kind L.schema kind)) unknown kind at levels left brackets text total runs a b
      (Ok rest) → VectorIsNoted before
  inline_noted before inline begins closes h =
      let k = stored_kind L.schema kind in
      let same : total ≡ count (joined h.items) = omega (arith, total_is, h.count_is) in
      let given = given_of L unknown kind at levels (joined h.items) (spent (1 + total) at left) in
      let noted = rw (← same) at h.noted in (
        array (joined h.items),
        runs_read L (AddsInline L k) unknown kind at levels left brackets text total runs a b law utf8_law cut within
            total_is some (Ok rest) h,
        rw (← (array_meant L unknown kind at levels left total (joined h.items) same)) at
            (inline_vector_noted L kind given total before a b c rest element inline begins noted closes),
      )
