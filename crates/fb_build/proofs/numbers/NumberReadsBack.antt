-- Numbers that stand in a tail.
use Rattle.std.proofs.Common.{◌≡◌, ℕ, ◌+◌, ◌-◌, ◌++◌, length, ap, sym, ◌∙◌, arith, length-append}
use Rattle.std.proofs.Math.Seq.{drop-append-add}
use Rattle.byteorder.specs.Endian.{little_number}
use Rattle.fb_value.specs.Num.{Bytes, num}
use Rattle.fb_build.specs.Vtables.{StandsEnd}
use Rattle.fb_value.proofs.numbers.BytesSumToTheirNumber.{num_is}

-- behind bytes in front
pub num_behind : (xs ys : Bytes) (p n : ℕ) → num (xs ++ ys) (length xs + p) n ≡ num ys p n
num_behind xs ys p n = sym (num_is (xs ++ ys) (length xs + p) n) ∙ ap (λ b. little_number n b) (drop-append-add xs ys p)
    ∙ num_is ys p n

-- a number in what stands at an end-count
pub num_standing : (s : Bytes) (e : ℕ) (xs : Bytes) (h : StandsEnd s e xs) (p n : ℕ)
    → num s ((length s - e) + p) n ≡ num (xs ++ h.behind) p n
num_standing s e xs h p n =
    let long = ap length h.split ∙ length-append h.before (xs ++ h.behind) in
    let at : (length s - e) + p ≡ length h.before + p = omega (arith, long, h.at) in
    rw at (ap (λ b. num b (length h.before + p) n) h.split ∙ num_behind h.before (xs ++ h.behind) p n)
