-- An array of elements that are read one by one.
use Rattle.std.specs.Prelude.{◌≡◌, ℕ, suc, Some, List, [], ◌∷◌, ⊤}
use Rattle.serde_json.specs.Data.{array, Items, no_items, item}
use Rattle.fb_pieces.specs.Reads.{read_at}
use Rattle.fb_pieces.specs.Texts.{array_text}

-- Each text is read as one of the elements, in order.
abbrev pub ReadEach : ℕ → List (List ℕ) → Items → Type 0
ReadEach levels [] no_items = ⊤
ReadEach levels [] (item d ds) = ⊥
ReadEach levels (e ∷ es) no_items = ⊥
ReadEach levels (e ∷ es) (item d ds) = (read_at levels e ≡ Some d) × ReadEach levels es ds

-- Elements that are read one by one make the array that is read of them all, with a level more.
abbrev pub ElementsMakeTheArray : Type 0
ElementsMakeTheArray = (levels : ℕ) (e : List ℕ) (es : List (List ℕ)) (ds : Items) → ReadEach levels (e ∷ es) ds
    → read_at (suc levels) (array_text e es) ≡ Some (array ds)
