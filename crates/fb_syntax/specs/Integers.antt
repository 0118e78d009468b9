-- Integers and their values (Grammar: integer_constant, dec_integer_constant, hex_integer_constant).
use Rattle.std.specs.Prelude.{ℕ, ◌≡◌, ◌≤◌, ◌<◌, ◌-◌, Bool, true, false, ◌==◌, ◌||◌, ◌&&◌, not, List, [], ◌∷◌, length}
use Rattle.std.specs.Prelude.{take, drop, map, if◌then◌else◌, ℤ, pos, ◌-ℤ◌}
use Rattle.std.specs.Int.Digits.{number_from_digits}
use Rattle.std.specs.List.{list_all}
use Rattle.fb_syntax.specs.Located.{Located}
use Rattle.fb_syntax.specs.NumberRead.{NumberRead}
use Rattle.fb_syntax.specs.Bytes.{is_between, is_digit, is_hex, is_sign}

-- how many bytes the sign has; 0 without one
abbrev pub sign_len : List ℕ → ℕ
sign_len [] = 0
sign_len (c ∷ cs) = if is_sign c then 1 else 0

-- what stands after the sign, if there is one
abbrev pub without_sign : List ℕ → List ℕ
without_sign s = drop (sign_len s) s

abbrev pub is_decimal : List ℕ → Bool
is_decimal s = not (length s == 0) && list_all is_digit s

-- 0x or 0X, and a digit after it
abbrev pub is_prefixed : List ℕ → Bool
is_prefixed (z ∷ x ∷ h ∷ hs) = z == 48 && (x == 120 || x == 88) && is_hex h
is_prefixed _ = false

abbrev pub is_hexadecimal : List ℕ → Bool
is_hexadecimal s = is_prefixed s && list_all is_hex (drop 2 s)

abbrev pub is_unsigned : List ℕ → Bool
is_unsigned s = is_decimal s || is_hexadecimal s

abbrev pub is_integer : List ℕ → Bool
is_integer s = is_unsigned (without_sign s)

-- The first n bytes are an integer without its sign, or none are, and no more bytes are.
pub record IsNumberLen (n : ℕ) (text : List ℕ) : Type 0 where
  pub within : n ≤ length text
  pub spelled : 0 < n → is_unsigned (take n text) ≡ true
  pub longest : (m : ℕ) → m ≤ length text → is_unsigned (take m text) ≡ true → m ≤ n

abbrev pub digit_value : ℕ → ℕ
digit_value c = if is_digit c then c - 48 else
    (if is_between 97 102 c then c - 87 else (if is_between 65 70 c then c - 55 else 0))

-- the number that digits write in a base, the highest first
abbrev pub digits_value : ℕ → List ℕ → ℕ
digits_value base digits = number_from_digits base (map digit_value digits)

abbrev pub unsigned_value : List ℕ → ℕ
unsigned_value s = if is_prefixed s then digits_value 16 (drop 2 s) else digits_value 10 s

-- the value without the sign
unfoldable pub magnitude : List ℕ → ℕ
magnitude s = unsigned_value (without_sign s)

-- the greatest that a type of FlatBuffers holds
abbrev pub greatest_magnitude : ℕ
greatest_magnitude = 18446744073709551615

-- -
abbrev pub is_negative : List ℕ → Bool
is_negative [] = false
is_negative (c ∷ cs) = c == 45

abbrev pub signed_value : List ℕ → ℤ
signed_value s = if is_negative s then pos 0 -ℤ pos (magnitude s) else pos (magnitude s)

-- the number that an integer constant is
abbrev pub number_of : Located → NumberRead
number_of t = record { value = signed_value t.bytes; at = t.at }

-- an integer that is not too great
pub record IsInteger (s : List ℕ) : Type 0 where
  pub spelled : is_integer s ≡ true
  pub small : magnitude s ≤ greatest_magnitude
