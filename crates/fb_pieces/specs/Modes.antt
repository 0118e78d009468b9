-- How a lexer goes on after a text: between lexemes, in a word, or in a string.
use Rattle.std.specs.Prelude.{ℕ, List, [], ◌∷◌, ⊤}
use Rattle.json.specs.Lex.{Class, quote, backslash, operator, space, other, class}
use Rattle.json.specs.Lex.{Mode, between, in_word, in_string, in_escape}

-- the mode after a byte of this class
abbrev pub next_mode : Mode → Class → Mode
next_mode between quote = in_string
next_mode between backslash = in_word
next_mode between operator = between
next_mode between space = between
next_mode between other = in_word
next_mode in_word quote = in_word
next_mode in_word backslash = in_word
next_mode in_word operator = between
next_mode in_word space = between
next_mode in_word other = in_word
next_mode in_string quote = between
next_mode in_string backslash = in_escape
next_mode in_string operator = in_string
next_mode in_string space = in_string
next_mode in_string other = in_string
next_mode in_escape c = in_string

-- the mode after a text
unfoldable pub mode_after : Mode → List ℕ → Mode
mode_after m [] = m
mode_after m (x ∷ xs) = mode_after (next_mode m (class x)) xs

-- In this mode no string is open.
abbrev pub IsOutside : Mode → Type 0
IsOutside between = ⊤
IsOutside in_word = ⊤
IsOutside in_string = ⊥
IsOutside in_escape = ⊥

-- The text leaves no string open.
abbrev pub EndsOutside : List ℕ → Type 0
EndsOutside text = IsOutside (mode_after between text)
