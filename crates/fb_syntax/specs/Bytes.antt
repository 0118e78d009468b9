-- The bytes that tokens are made of (Grammar: ident, integer_constant, string_constant; blanks are the usual ones).
use Rattle.std.specs.Prelude.{ℕ, Bool, ◌==◌, ◌||◌, ◌&&◌, nat_le, not}
use Rattle.fb_syntax.specs.declared.bytes.ByteClass.{ByteClass}
use Rattle.fb_syntax.specs.declared.bytes.ByteClass.TheVariants.{Word, Digit, Hex, Quotable, Line}
use Rattle.fb_syntax.specs.declared.bytes.ByteClass.TheVariants.{Continuation}

abbrev pub is_between : ℕ → ℕ → ℕ → Bool
is_between low high c = nat_le low c && nat_le c high

-- a to z, A to Z and _
abbrev pub is_letter : ℕ → Bool
is_letter c = is_between 97 122 c || is_between 65 90 c || c == 95

-- 0 to 9
abbrev pub is_digit : ℕ → Bool
is_digit c = is_between 48 57 c

abbrev pub is_word_byte : ℕ → Bool
is_word_byte c = is_letter c || is_digit c

-- 0 to 9, a to f, A to F
abbrev pub is_hex : ℕ → Bool
is_hex c = is_digit c || is_between 97 102 c || is_between 65 70 c

-- + and -
abbrev pub is_sign : ℕ → Bool
is_sign c = c == 43 || c == 45

-- space, tab, CR and LF
abbrev pub is_blank : ℕ → Bool
is_blank c = c == 32 || c == 9 || c == 13 || c == 10

-- { } ( ) [ ] : ; , . =
abbrev pub is_punct : ℕ → Bool
is_punct c = c == 123 || c == 125 || c == 40 || c == 41 || c == 91 || c == 93 || c == 58 || c == 59 || c == 44 || c ==
    46 || c == 61

-- no control byte below a space, no " and no \
abbrev pub is_quotable : ℕ → Bool
is_quotable c = nat_le 32 c && not (c == 34) && not (c == 92)

-- a byte of a character in UTF-8, after its first
abbrev pub is_continuation : ℕ → Bool
is_continuation c = is_between 128 191 c

-- the bytes of a class
abbrev pub has : ByteClass → ℕ → Bool
has Word = is_word_byte
has Digit = is_digit
has Hex = is_hex
has Quotable = is_quotable
has Line = λ c. not (c == 10)
has Continuation = is_continuation
