-- An array is refused where one of its elements is.
use Rattle.std.specs.Prelude.{◌≡◌, ℕ, zero, suc, Bool, true, false, Option, Some, option_map, option_and_then, List, []}
use Rattle.std.specs.Prelude.{◌∷◌, ⊤}
use Rattle.json.specs.Token as tokens
use Rattle.json.specs.Token.{Token}
use Rattle.json.specs.Print.{begins}
use Rattle.json.specs.Lex.{Lexeme, token, comma, colon, between, lex}
use Rattle.serde_json.specs.Data.{array, Items, no_items, item}
use Rattle.fb_pieces.specs.Modes.{EndsOutside}
use Rattle.fb_pieces.specs.Reads.{read_at}
use Rattle.fb_pieces.specs.Texts.{array_text}

-- whether the token is an opening bracket
abbrev pub is_opening : Token → Bool
is_opening tokens.begin_object = true
is_opening tokens.end_object = false
is_opening tokens.begin_array = true
is_opening tokens.end_array = false
is_opening (tokens.key s) = false
is_opening (tokens.string s) = false
is_opening (tokens.number s) = false
is_opening (tokens.boolean b) = false
is_opening tokens.null = false
is_opening tokens.bad = false

-- All brackets are closed.
abbrev pub AtEnd : ℕ → Type 0
AtEnd zero = ⊤
AtEnd (suc n) = ⊥

-- A bracket is open, which is closed now.
abbrev pub AtClose : ℕ → (ℕ → Type 0) → Type 0
AtClose zero after = ⊥
AtClose (suc n) after = after n

-- A bracket is open: no comma is outside of all brackets.
abbrev pub AtComma : ℕ → Type 0 → Type 0
AtComma zero after = ⊥
AtComma (suc n) after = after

-- whether the token opens, and whether it begins a value or a member
abbrev pub LevelAt : ℕ → Bool → Bool → (ℕ → Type 0) → Type 0
LevelAt n true begin after = after (suc n)
LevelAt n false true after = after n
LevelAt n false false after = AtClose n after

-- Inside n open brackets, each bracket is closed, and no comma is outside of all of them.
abbrev pub Level : ℕ → List Lexeme → Type 0
Level n [] = AtEnd n
Level n (token t ∷ ls) = LevelAt n (is_opening t) (begins t) (λ m. Level m ls)
Level n (comma ∷ ls) = AtComma n (Level n ls)
Level n (colon ∷ ls) = Level n ls

-- The texts are those between the commas of an array: each ends outside strings, and closes what it opens.
abbrev pub AreBetweenCommas : List (List ℕ) → Type 0
AreBetweenCommas [] = ⊤
AreBetweenCommas (e ∷ es) = EndsOutside e × Level 0 (lex between e) × AreBetweenCommas es

-- what is read of all texts, one by one, or nothing where one of them is refused
abbrev pub read_all : ℕ → List (List ℕ) → Option Items
read_all levels [] = Some no_items
read_all levels (e ∷ es) = option_and_then (λ d. option_map (item d) (read_all levels es)) (read_at levels e)

-- The text is not blank: `[ ]` is read as the empty array.
abbrev pub HasLexeme : List Lexeme → Type 0
HasLexeme [] = ⊥
HasLexeme (l ∷ ls) = ⊤

-- What is read of an array is the array of what is read of each text between its commas, and nothing where one of them
-- is refused.
abbrev pub ArrayIsThatOfItsElements : Type 0
ArrayIsThatOfItsElements = (levels : ℕ) (e : List ℕ) (es : List (List ℕ)) → HasLexeme (lex between e)
    → AreBetweenCommas (e ∷ es)
    → read_at (suc levels) (array_text e es) ≡ option_map array (read_all levels (e ∷ es))
