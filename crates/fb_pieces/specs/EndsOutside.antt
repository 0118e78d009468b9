-- What is read leaves no string open.
use Rattle.std.specs.Prelude.{◌≡◌, ℕ, Some, List, []}
use Rattle.serde_json.specs.Data.{Data}
use Rattle.fb_pieces.specs.Modes.{EndsOutside}
use Rattle.fb_pieces.specs.Reads.{read_at}
use Rattle.fb_pieces.specs.Texts.{array_text}

-- A text that is read ends outside strings.
abbrev pub ReadTextEndsOutside : Type 0
ReadTextEndsOutside = (levels : ℕ) (text : List ℕ) (d : Data) → read_at levels text ≡ Some d → EndsOutside text

-- So does a run of elements that is read in brackets of its own.
abbrev pub ReadRunEndsOutside : Type 0
ReadRunEndsOutside = (levels : ℕ) (run : List ℕ) (d : Data) → read_at levels (array_text run []) ≡ Some d
    → EndsOutside run
