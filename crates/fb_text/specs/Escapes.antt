-- Bytes that stand in a JSON string as they are (RFC 8259, "Strings").
use Rattle.std.specs.Prelude.{ℕ, Bool, ◌&&◌, ◌==◌, not, nat_le}

-- no control byte, no quote and no backslash
abbrev pub is_plain : ℕ → Bool
is_plain c = nat_le 32 c && not (c == 34) && not (c == 92)
