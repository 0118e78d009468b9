-- A text that is read in brackets of its own.
use Rattle.std.specs.Prelude.{◌≡◌, ℕ, zero, suc, ◌+◌, Some, List, []}
use Rattle.serde_json.specs.Data.{Data, array, no_items, item}
use Rattle.fb_pieces.specs.Reads.{read_at}
use Rattle.fb_pieces.specs.Texts.{array_text}

-- What is read in brackets as an array of one element is read without them as that element, with a level less.
abbrev pub ElementIsReadWithoutBrackets : Type 0
ElementIsReadWithoutBrackets = (levels : ℕ) (e : List ℕ) (d : Data)
    → read_at (suc levels) (array_text e []) ≡ Some (array (item d no_items)) → read_at levels e ≡ Some d

-- n brackets around a text
abbrev pub in_brackets : ℕ → List ℕ → List ℕ
in_brackets zero text = text
in_brackets (suc n) text = array_text (in_brackets n text) []

-- n arrays around a tree, each of one element
abbrev pub in_arrays : ℕ → Data → Data
in_arrays zero d = d
in_arrays (suc n) d = array (item (in_arrays n d) no_items)

-- What is read in n brackets is read without them, with n levels less.
abbrev pub TextIsReadWithoutBrackets : Type 0
TextIsReadWithoutBrackets = (levels n : ℕ) (text : List ℕ) (d : Data)
    → read_at (n + levels) (in_brackets n text) ≡ Some (in_arrays n d) → read_at levels text ≡ Some d
