-- A sum of bytes is what byteorder reads, and what byteorder writes is read back.
use Rattle.std.proofs.Common.{◌≡◌, ℕ, zero, suc, ◌+◌, ◌*◌, ◌^◌, ◌<◌, ◌++◌, slice_index, drop, refl, ap, sym, ◌∙◌, arith}
use Rattle.std.proofs.Common.{add-zero, pow-suc}
use Rattle.std.proofs.lemmas.List.{get_or-drop}
use Rattle.byteorder.specs.Endian.{little_bytes, little_from, little_number}
use Rattle.byteorder.specs.Numbers.{little_number-reads_back}
use Rattle.fb_value.specs.Num.{Bytes, num}

-- the lowest byte, and the others
pub lowest : (b : Bytes) (p n : ℕ) → num b p (suc n) ≡ slice_index b p + 256 * num b (p + 1) n
unfolding num
lowest b p zero = rw add-zero (omega arith)
lowest b p (suc n) =
    let rest = lowest b p n in
    let at : slice_index b (p + suc n) ≡ slice_index b ((p + 1) + n) = ap (λ i. slice_index b i) (omega arith) in
    rw (rest, at, pow-suc) (omega arith)

from : (b : Bytes) (p i n : ℕ) → little_from i n (drop p b) ≡ num b (p + i) n
unfolding num
from b p i zero = refl
from b p i (suc n) = rw (lowest b (p + i) n, get_or-drop p b i 0, from b p (suc i) n)
    (ap (λ q. slice_index b (p + i) + 256 * num b q n) (omega arith))

-- in the bytes from p on
pub num_is : (b : Bytes) (p n : ℕ) → little_number n (drop p b) ≡ num b p n
num_is b p n = from b p 0 n ∙ ap (λ q. num b q n) (omega arith)

-- the first number
pub num_first : (n x : ℕ) (rest : Bytes) → x < 256 ^ n → num (little_bytes n x ++ rest) 0 n ≡ x
num_first n x rest fits = sym (num_is (little_bytes n x ++ rest) 0 n) ∙ little_number-reads_back n x rest fits
