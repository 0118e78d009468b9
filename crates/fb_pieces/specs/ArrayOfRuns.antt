-- An array of runs of elements, each of which is read in brackets of its own.
use Rattle.std.specs.Prelude.{◌≡◌, ◌≢◌, ℕ, suc, Some, List, [], ◌∷◌, ⊤}
use Rattle.serde_json.specs.Data.{array, Items, no_items, item}
use Rattle.fb_pieces.specs.Reads.{read_at}
use Rattle.fb_pieces.specs.Texts.{array_text}

-- The run, in brackets, is read as the array of these elements, of which there are some.
pub record ReadsRun (levels : ℕ) (run : List ℕ) (ds : Items) : Type 0 where
  pub some : ds ≢ no_items
  pub read : read_at (suc levels) (array_text run []) ≡ Some (array ds)

-- Each run is read as one of these lists, in order.
abbrev pub ReadRuns : ℕ → List (List ℕ) → List Items → Type 0
ReadRuns levels [] [] = ⊤
ReadRuns levels [] (r ∷ rs) = ⊥
ReadRuns levels (e ∷ es) [] = ⊥
ReadRuns levels (e ∷ es) (r ∷ rs) = ReadsRun levels e r × ReadRuns levels es rs

-- the elements of two arrays, one after the other
abbrev pub append : Items → Items → Items
append no_items es = es
append (item d ds) es = item d (append ds es)

-- the elements of all runs, one run after another
abbrev pub joined : List Items → Items
joined [] = no_items
joined (r ∷ rs) = append r (joined rs)

-- Runs that are read in brackets of their own make the array that is read of them all.
abbrev pub RunsMakeTheArray : Type 0
RunsMakeTheArray =
    (levels : ℕ) (run : List ℕ) (runs : List (List ℕ)) (rs : List Items) → ReadRuns levels (run ∷ runs) rs
    → read_at (suc levels) (array_text run runs) ≡ Some (array (joined rs))
