-- Texts of printable ASCII.
use Rattle.std.specs.Prelude.{ℕ, ◌-◌, ◌==◌, ◌&&◌, Bool, true, nat_lt, nat_le, if◌then◌else◌, List, [], ◌∷◌}

abbrev pub is_printable : ℕ → Bool
is_printable byte = nat_le 32 byte && nat_lt byte 127

-- Each byte is a line feed or printable. So many are before the first line feed at most, and 120 before each further
-- one.
abbrev pub is_printed : ℕ → List ℕ → Bool
is_printed left [] = true
is_printed left (byte ∷ bytes) =
    if byte == 10 then is_printed 120 bytes else (is_printable byte && nat_lt 0 left) && is_printed (left - 1) bytes
