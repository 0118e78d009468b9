-- The grammar's signs.
use Rattle.std.specs.Prelude.{ℕ}
use Prim.Native.Char.{Char, code}

-- the byte of a sign
abbrev pub byte : Char → ℕ
byte sign = code sign

abbrev pub dot : ℕ
dot = byte "."
