-- What stands at a text's front, and which tokens spell a whole text (Writing a schema; Grammar).
use Rattle.std.specs.Prelude.{ℕ, List, [], ◌∷◌, take, Result, Ok, Err, ◌≡◌, ◌+◌, ◌++◌, drop, IsUtf8, nat_eq}
use Rattle.std.specs.Prelude.{if◌then◌else◌}
use Rattle.fb_syntax.specs.declared.scan.GapOrToken.{GapOrToken}
use Rattle.fb_syntax.specs.declared.scan.GapOrToken.TheVariants as pieces
use Rattle.fb_syntax.specs.declared.faults.SyntaxFault.{SyntaxFault}
use Rattle.fb_syntax.specs.Gaps.{IsGap}
use Rattle.fb_syntax.specs.TokenBytes.{IsLongest, IsSmall}
use Rattle.std.specs.List.{starts_with}
use Rattle.fb_syntax.specs.declared.tokens.Token.{Token}

-- a blank or comment, or the longest token
abbrev pub IsAtFront : List ℕ → GapOrToken → Type 0
IsAtFront text (pieces.Gap n) = IsGap n text
IsAtFront text (pieces.Token kind n) = IsLongest kind n text × IsSmall kind (take n text)

abbrev pub len_of : GapOrToken → ℕ
len_of (pieces.Gap n) = n
len_of (pieces.Token kind n) = n

-- the token that a piece is, if it is one
abbrev pub tokens_of : ℕ → GapOrToken → List Token
tokens_of at (pieces.Gap n) = []
tokens_of at (pieces.Token kind n) = record { kind = kind; at = at; len = n } ∷ []

-- what stands at the front; a fault where nothing does
abbrev pub IsFront : List ℕ → Result GapOrToken SyntaxFault → Type 0
IsFront text (Ok piece) = IsAtFront text piece
IsFront text (Err fault) = (piece : GapOrToken) → ¬ (IsAtFront text piece)

-- These tokens, with blanks and comments between, are the text that begins at the place `at`. Each is the longest
-- there.
pub data Spells : ℕ → List ℕ → List Token → Type 0 where
  finished : {at : ℕ} → Spells at [] []
  piece : {at : ℕ} {text : List ℕ} {rest : List Token} (p : GapOrToken) → IsAtFront text p
      → Spells (at + len_of p) (drop (len_of p) text) rest → Spells at text (tokens_of at p ++ rest)

abbrev pub byte_order_mark : List ℕ
byte_order_mark = 0xef ∷ 0xbb ∷ 0xbf ∷ []

-- the length of the byte order mark that the bytes begin with; 0 without one
abbrev pub mark_len : List ℕ → ℕ
mark_len bytes = if starts_with nat_eq bytes byte_order_mark then 3 else 0

-- The bytes are UTF-8 and, after their byte order mark if they have one, these tokens spell them; offsets count it.
pub record SpellsText (bytes : List ℕ) (tokens : List Token) : Type 0 where
  pub utf8 : IsUtf8 bytes
  pub spelled : Spells (mark_len bytes) (drop (mark_len bytes) bytes) tokens

-- A text is spelled by one list of tokens at most.
abbrev pub OneSpelling : Type 0
OneSpelling = (bytes : List ℕ) (xs ys : List Token) → SpellsText bytes xs → SpellsText bytes ys → xs ≡ ys
