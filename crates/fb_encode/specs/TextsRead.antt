-- What is read of a text within a JSON text.
-- From the FlatBuffers documentation, "JSON parsing": the JSON is read whole before a schema gives it a meaning.
use Rattle.std.specs.Prelude.{ℕ, ◌≡◌, List, [], Result, Ok, Err}
use Rattle.std.specs.List.{All, sum_by}
use Rattle.serde_json.specs.Data.{array, Items, no_items, item}
use Rattle.fb_layout.specs.Laid.{LaidSchema, StoredKind, StoredShape}
use Rattle.fb_value.specs.Datum.{Datum}
use Rattle.fb_tape.specs.Tapes.{Taped}
use Rattle.fb_json.specs.declared.faults.JsonFault.{JsonFault}
use Rattle.fb_json.specs.Meant.{count}
use Rattle.fb_json.specs.Outcome.{Counted, Fails}
use Rattle.fb_pieces.specs.declared.cut.Run.{Run}
use Rattle.fb_pieces.specs.CutTexts.{run_text}
use Rattle.fb_pieces.specs.Texts.{array_text}
use Rattle.fb_encode.specs.TreesNoted.{AreElementsAdded, IsNoted}
pub use Rattle.fb_pieces.specs.JsonTexts.{IsReadAs, IsRead}

-- A run of elements is read, in brackets of its own, as the array of these, of which there are some.
abbrev pub IsRunReadAs : ℕ → List ℕ → Items → Type 0
IsRunReadAs brackets run no_items = ⊥
IsRunReadAs brackets run (item d ds) = IsReadAs brackets (array_text run []) (array (item d ds))

-- The run is read as these elements, which are as many as its cut counted.
pub record IsRunRead (brackets : ℕ) (text : List ℕ) (run : Run) (ds : Items) : Type 0 where
  pub read : IsRunReadAs brackets (run_text text run) ds
  pub counted : count ds ≡ run.count

-- Each run is read.
abbrev pub AreRunsRead : ℕ → List ℕ → List Run → Type 0
AreRunsRead brackets text runs = All (λ run. (ds : Items) × IsRunRead brackets text run ds) runs

-- how many elements runs have, as their cut counted them
abbrev pub elements_in : List Run → ℕ
elements_in runs = sum_by (λ run. run.count) runs

-- What is given is noted, and these cells are left; or this is its fault.
abbrev pub IsNotedOr : LaidSchema → StoredShape → Counted Datum → Taped → Taped → Result ℕ JsonFault → Type 0
IsNotedOr L shape given a b (Ok rest) = IsNoted L shape given a b rest
IsNotedOr L shape given a b (Err f) = Fails f given

-- The same of the elements of a vector, which are on the tape in this way.
abbrev pub AreElementsAddedOr : LaidSchema → StoredKind → (Taped → Taped → List Datum → Type 0)
    → Counted (List Datum) → ℕ → Taped → Taped → Result ℕ JsonFault → Type 0
AreElementsAddedOr L kind AddsAll given count a b (Ok rest) = AreElementsAdded L kind AddsAll given count a b rest
AreElementsAddedOr L kind AddsAll given count a b (Err f) = Fails f given
