-- Numbers in bytes, lowest byte first.
-- From the FlatBuffers documentation, "FlatBuffer Internals": all numbers are little endian.
use Rattle.std.specs.Prelude.{ℕ, zero, suc, ◌+◌, ◌-◌, ◌*◌, ◌%◌, ◌^◌, List, slice_index, take, drop, Bool, ◌==◌, nat_lt}
use Rattle.std.specs.Prelude.{if◌then◌else◌, ℤ, pos, negsuc}
use Rattle.fb_schema.specs.declared.kinds.Base.{Base}
use Rattle.fb_schema.specs.declared.kinds.Base.TheVariants.{Bool as Boolean, I8, U8, I16, U16, I32, U32, I64, U64}

abbrev pub Bytes : Type 0
Bytes = List ℕ

-- the sum of b[p + i] * 256 ^ i for i below n
unfoldable pub num : Bytes → ℕ → ℕ → ℕ
num b p zero = 0
num b p (suc n) = num b p n + slice_index b (p + n) * 256 ^ n

abbrev pub divides : ℕ → ℕ → Bool
divides a n = (n % a) == 0

-- the n bytes from p on
abbrev pub part_of : Bytes → ℕ → ℕ → List ℕ
part_of b p n = take n (drop p b)

-- two's complement in n bytes
abbrev pub signed : ℕ → ℕ → ℤ
signed n x = if nat_lt (2 * x) (256 ^ n) then pos x else negsuc ((256 ^ n - x) - 1)

-- what a number's bytes mean; a `bool` byte other than 0 is 1
abbrev pub scalar_of : Base → ℕ → ℤ
scalar_of Boolean x = if x == 0 then pos 0 else pos 1
scalar_of I8 x = signed 1 x
scalar_of U8 x = pos x
scalar_of I16 x = signed 2 x
scalar_of U16 x = pos x
scalar_of I32 x = signed 4 x
scalar_of U32 x = pos x
scalar_of I64 x = signed 8 x
scalar_of U64 x = pos x
