-- The lexemes of a text that is cut in two.
use Rattle.std.specs.Prelude.{◌≡◌, ℕ, true, List, ◌++◌, ⊤}
use Rattle.json.specs.Word.{ends_word}
use Rattle.json.specs.Lex.{Mode, between, in_word, in_string, in_escape, lex}
use Rattle.fb_pieces.specs.Modes.{mode_after}

-- A text may end in this mode before what follows: no string is open, and no word goes on.
abbrev pub MayCut : Mode → List ℕ → Type 0
MayCut between next = ⊤
MayCut in_word next = ends_word next ≡ true
MayCut in_string next = ⊥
MayCut in_escape next = ⊥

-- Where a text may be cut, its lexemes are those of its two parts.
abbrev pub LexemesSplit : Type 0
LexemesSplit = (text next : List ℕ) → MayCut (mode_after between text) next
    → lex between (text ++ next) ≡ lex between text ++ lex between next
