-- Which bytes are a token of each kind, and the longest token at a place (Grammar: ident, integer_constant,
-- string_constant).
use Rattle.std.specs.Prelude.{ℕ, ◌≡◌, ◌≤◌, Bool, true, false, ◌==◌, ◌&&◌, ◌||◌, List, [], ◌∷◌, length, take}
use Rattle.std.specs.List.{list_all}
use Rattle.fb_syntax.specs.declared.tokens.TokenKind.{TokenKind}
use Rattle.fb_syntax.specs.declared.tokens.TokenKind.TheVariants.{Word, Integer, Quoted, Punct}
use Rattle.fb_syntax.specs.Bytes.{is_letter, is_digit, is_sign, is_word_byte, is_punct, is_quotable}
use Rattle.fb_syntax.specs.Integers.{is_integer, magnitude, greatest_magnitude}

abbrev pub is_word : List ℕ → Bool
is_word [] = false
is_word (c ∷ cs) = is_letter c && list_all is_word_byte cs

-- what may stand in a quoted text, and the closing quote
abbrev pub is_closed_by_quote : List ℕ → Bool
is_closed_by_quote [] = false
is_closed_by_quote (c ∷ []) = c == 34
is_closed_by_quote (c ∷ d ∷ cs) = is_quotable c && is_closed_by_quote (d ∷ cs)

abbrev pub is_quoted : List ℕ → Bool
is_quoted [] = false
is_quoted (c ∷ cs) = c == 34 && is_closed_by_quote cs

-- that byte alone
abbrev pub is_punctuation : ℕ → List ℕ → Bool
is_punctuation p (c ∷ []) = c == p && is_punct c
is_punctuation p _ = false

-- the bytes are a token of that kind
unfoldable pub is_token : TokenKind → List ℕ → Bool
is_token Word s = is_word s
is_token Integer s = is_integer s
is_token Quoted s = is_quoted s
is_token (Punct p) s = is_punctuation p s

-- a token of that kind may begin with that byte
abbrev pub starts : TokenKind → ℕ → Bool
starts Word c = is_letter c
starts Integer c = is_digit c || is_sign c
starts Quoted c = c == 34
starts (Punct p) c = c == p && is_punct c

-- The first n bytes are a token of that kind, and no more bytes are a token.
pub record IsLongest (kind : TokenKind) (n : ℕ) (text : List ℕ) : Type 0 where
  pub within : n ≤ length text
  pub spelled : is_token kind (take n text) ≡ true
  pub longest : (k : TokenKind) (m : ℕ) → m ≤ length text → is_token k (take m text) ≡ true → m ≤ n

-- an integer is not too great
abbrev pub IsSmall : TokenKind → List ℕ → Type 0
IsSmall Integer s = magnitude s ≤ greatest_magnitude
IsSmall k s = Unit {0}
