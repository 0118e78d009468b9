-- A sum of bytes is what byteorder reads.
use Rattle.std.proofs.Common.{◌≡◌, ℕ, ◌-◌, length, take, drop, ap, ◌∙◌, arith}
use Rattle.std.proofs.Common.{length-drop}
use Rattle.std.proofs.lemmas.List.{take_all}
use Rattle.byteorder.specs.Endian.{little_number}
use Rattle.std.proofs.lemmas.Bool.Decides.{nat_tests}
use Rattle.std.specs.Int.{w16, w32, w64, cast_signed}
use Rattle.fb_value.specs.Num.{Bytes, num, signed}
use Rattle.fb_value.proofs.numbers.BytesSumToTheirNumber.{num_is}

-- in the slice of the bytes from p on
pub num_in_slice : (b : Bytes) (p n : ℕ) → little_number n (take (length b - p) (drop p b)) ≡ num b p n
num_in_slice b p n =
    let whole : take (length b - p) (drop p b) ≡ drop p b =
    take_all (length b - p) (drop p b) (omega (arith, length-drop p b)) in
    ap (λ xs. little_number n xs) whole ∙ num_is b p n

-- two's complement, as this project and as std write it
pub signed_is : (x : ℕ) → cast_signed w32 x ≡ signed 4 x
signed_is x = grind (arith, nat_tests)

pub signed_is_16 : (x : ℕ) → cast_signed w16 x ≡ signed 2 x
signed_is_16 x = grind (arith, nat_tests)

pub signed_is_64 : (x : ℕ) → cast_signed w64 x ≡ signed 8 x
signed_is_64 x = grind (arith, nat_tests)
