-- Bytes at a text's front that begin no token, blank or comment: why, and how many are refused together.
use Rattle.std.specs.Prelude.{ℕ, ◌+◌, Bool, false, ◌==◌, ◌&&◌, List, [], ◌∷◌, length, if◌then◌else◌}
use Rattle.std.specs.List.{prefix_len}
use Rattle.fb_syntax.specs.declared.faults.SyntaxFault.{SyntaxFault}
use Rattle.fb_syntax.specs.declared.faults.SyntaxFault.TheVariants.{BadByte, Unterminated, NumberTooBig}
use Rattle.fb_syntax.specs.declared.tokens.TokenKind.TheVariants.{Integer}
use Rattle.fb_syntax.specs.declared.tokens.BadToken.{BadToken}
use Rattle.fb_syntax.specs.Bytes.{is_digit, is_word_byte, is_quotable, is_continuation}
use Rattle.fb_syntax.specs.Gaps.{line_len}
use Rattle.fb_syntax.specs.Integers.{without_sign}
use Rattle.fb_syntax.specs.TokenBytes.{starts}

-- a * stands here
abbrev pub is_star : List ℕ → Bool
is_star [] = false
is_star (c ∷ cs) = c == 42

-- a digit stands here
abbrev pub has_digit : List ℕ → Bool
has_digit [] = false
has_digit (c ∷ cs) = is_digit c

-- why a quote at `at`, with these bytes after it, begins no quoted text
abbrev pub quoted_fault : ℕ → List ℕ → SyntaxFault
quoted_fault at cs = if prefix_len is_quotable cs == length cs then Unterminated at else BadByte
    (at + prefix_len is_quotable cs + 1)

-- Why the text that begins at `at` is refused: it begins with a quote, with a comment that has no end, with an integer,
-- which is too great, or with another byte.
abbrev pub fault_of : ℕ → List ℕ → SyntaxFault
fault_of at [] = BadByte at
fault_of at (c ∷ cs) = if c == 34 then quoted_fault at cs else
    (if c == 47 && is_star cs then Unterminated at else
    (if has_digit (without_sign (c ∷ cs)) then NumberTooBig at else BadByte at))

-- How many bytes are refused together: from a quote to the end of the line; a comment to the text's end; a sign or
-- digit with the letters and digits after it; or one character.
abbrev pub refused_len : List ℕ → ℕ
refused_len [] = 0
refused_len (c ∷ cs) = 1 + (if c == 34 then line_len cs else
    (if c == 47 && is_star cs then length cs else
    (if starts Integer c then prefix_len is_word_byte cs else prefix_len is_continuation cs)))

-- the refused bytes at `at`
abbrev pub bad_token : ℕ → List ℕ → BadToken
bad_token at text = record { fault = fault_of at text; at = at; len = refused_len text }
