-- The bytes of a vtable in which offsets are put.
use Rattle.std.proofs.Common.{◌≡◌, ◌+◌, ◌-◌, ◌*◌, ◌++◌, ◌∙◌, ℕ, zero, suc, List, [], ◌∷◌, slice_set, length, replicate}
use Rattle.std.proofs.Common.{flat_map, refl, sym, ap, arith}
use Rattle.std.proofs.lemmas.List.{length-replicate, length-set}
use Rattle.byteorder.specs.Endian.{little_bytes}
use Rattle.fb_value.specs.Num.{Bytes}
use Rattle.fb_tape.specs.OpenFields.{OpenField}
use Rattle.fb_tape.specs.StoredTables.{taken_by, put_number, told, placed}
use Rattle.fb_tape.specs.Vtables.{vtable_with}

-- one of several numbers, which has its two bytes behind those of the others before it
one_put : (os : List ℕ) (k n p : ℕ) → p ≡ 2 * k
    → put_number (flat_map (little_bytes 2) os) p n ≡ flat_map (little_bytes 2) (slice_set os k n)
one_put [] k n p is = refl
one_put (o ∷ os) zero n zero is = refl
one_put (o ∷ os) zero n (suc p) is = absurd (omega (arith, is))
one_put (o ∷ os) (suc k) n zero is = absurd (omega (arith, is))
one_put (o ∷ os) (suc k) n (suc zero) is = absurd (omega (arith, is))
one_put (o ∷ os) (suc k) n (suc (suc p)) is =
    let next : suc (suc p) + 1 ≡ suc (suc (p + 1)) = omega arith in
    rw next (ap (λ (bs : Bytes). little_bytes 2 o ++ bs) (one_put os k n p (omega (arith, is))))

-- an offset in a vtable
offset_put : (size : ℕ) (os : List ℕ) (k n : ℕ)
    → put_number (vtable_with size os) (4 + 2 * k) n ≡ vtable_with size (slice_set os k n)
offset_put size os k n =
    let long : length (slice_set os k n) ≡ length os = length-set os k n in
    let next : (4 + 2 * k) + 1 ≡ suc (suc (suc (suc (2 * k + 1)))) = omega arith in
    let here : 4 + 2 * k ≡ suc (suc (suc (suc (2 * k)))) = omega arith in
    rw (long, next, here) (ap (λ (bs : Bytes). little_bytes 2 (4 + 2 * length os) ++ (little_bytes 2 size ++ bs))
    (one_put os k n (2 * k) refl))

pub all_put : (size laid : ℕ) (xs : List OpenField) (os : List ℕ)
    → told size laid xs (vtable_with size os) ≡ vtable_with size (placed size laid xs os)
all_put size laid [] os = refl
all_put size laid (x ∷ xs) os =
    let n = size - (laid + taken_by x.note) in
    let here = offset_put size os x.slot n in
    rw here (all_put size (laid + taken_by x.note) xs (slice_set os x.slot n))

zeros_both : (n m : ℕ) → m ≡ 2 * n → flat_map (little_bytes 2) (replicate n 0) ≡ replicate m 0
zeros_both zero zero is = refl
zeros_both zero (suc m) is = absurd (omega (arith, is))
zeros_both (suc n) zero is = absurd (omega (arith, is))
zeros_both (suc n) (suc zero) is = absurd (omega (arith, is))
zeros_both (suc n) (suc (suc m)) is = ap (λ (bs : Bytes). 0 ∷ 0 ∷ bs) (zeros_both n m (omega (arith, is)))

-- a vtable of which only its own size and its table's are put
pub sizes_put : (size slots : ℕ) → put_number (put_number (replicate (4 + 2 * slots) 0) 0 (4 + 2 * slots)) 2 size
    ≡ vtable_with size (replicate slots 0)
sizes_put size slots =
    let long : length (replicate {A = ℕ} slots 0) ≡ slots = length-replicate slots 0 in
    let four : 4 + 2 * slots ≡ suc (suc (suc (suc (2 * slots)))) = omega arith in
    let front : put_number (put_number (replicate (4 + 2 * slots) 0) 0 (4 + 2 * slots)) 2 size
    ≡ little_bytes 2 (4 + 2 * slots) ++ (little_bytes 2 size ++ replicate (2 * slots) 0) =
    ap (λ (n : ℕ). put_number (put_number (replicate n 0) 0 (4 + 2 * slots)) 2 size) four in
    front ∙ rw long (ap (λ (bs : Bytes). little_bytes 2 (4 + 2 * slots) ++ (little_bytes 2 size ++ bs))
    (sym (zeros_both slots (2 * slots) refl)))

pub vtable_long : (size : ℕ) (os : List ℕ) → length (vtable_with size os) ≡ 4 + 2 * length os
vtable_long size os = let rest = numbers_long os in omega (arith, rest)
  where
    numbers_long : (os : List ℕ) → length (flat_map (little_bytes 2) os) ≡ 2 * length os
    numbers_long [] = refl
    numbers_long (o ∷ os) = let rest = numbers_long os in omega (arith, rest)
