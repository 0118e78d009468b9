-- Blanks round a text.
use Rattle.std.specs.Prelude.{◌≡◌, ℕ, IsTrue, List, ◌++◌}
use Rattle.std.specs.List.{list_all}
use Rattle.json.specs.Word.{is_space}
use Rattle.fb_pieces.specs.Modes.{EndsOutside}
use Rattle.fb_pieces.specs.Reads.{read_at}

-- spaces, tabs and line ends
abbrev pub AreBlanks : List ℕ → Type 0
AreBlanks bytes = IsTrue (list_all is_space bytes)

-- Blanks before a text, and after one that ends outside strings, change nothing of what is read.
abbrev pub BlanksChangeNothing : Type 0
BlanksChangeNothing = (levels : ℕ) (before text after : List ℕ) → AreBlanks before → AreBlanks after → EndsOutside text
    → read_at levels (before ++ (text ++ after)) ≡ read_at levels text
