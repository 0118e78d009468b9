-- Bytes are told by the number that they are.
use Rattle.std.proofs.Common.{◌≡◌, ◌∙◌, ◌<◌, ◌≤◌, ◌+◌, ◌-◌, ◌*◌, ◌++◌, ℕ, zero, suc, List, get_or, length, take, drop}
use Rattle.std.proofs.Common.{sym, ap, arith}
use Rattle.std.proofs.lemmas.List.{drop-drop, ext_get_or, length-drop, take_all, take-append-drop}
use Rattle.byteorder.specs.Endian.{little_from, little_number}

abbrev pub AreBytes : List ℕ → Type 0
AreBytes xs = (i : ℕ) → get_or xs i 0 < 256

same_digits : (n i : ℕ) (xs ys : List ℕ) → AreBytes xs → AreBytes ys → little_from i n xs ≡ little_from i n ys
    → (j : ℕ) → j < n → get_or xs (i + j) 0 ≡ get_or ys (i + j) 0
same_digits zero i xs ys few fewer h j low = absurd (omega (arith, low))
same_digits (suc n) i xs ys few fewer h zero low =
    let at : i + 0 ≡ i = omega arith in
    let first : get_or xs i 0 + 256 * little_from (suc i) n xs ≡ get_or ys i 0 + 256 * little_from (suc i) n ys = h in
    rw at (omega (arith, first, few i, fewer i))
same_digits (suc n) i xs ys few fewer h (suc j) low =
    let at : i + suc j ≡ suc i + j = omega arith in
    let first : get_or xs i 0 + 256 * little_from (suc i) n xs ≡ get_or ys i 0 + 256 * little_from (suc i) n ys = h in
    let rest : little_from (suc i) n xs ≡ little_from (suc i) n ys = omega (arith, first, few i, fewer i) in
    rw at (same_digits n (suc i) xs ys few fewer rest j (omega (arith, low)))

pub same_bytes : (n : ℕ) (xs ys : List ℕ) → length xs ≡ n → length ys ≡ n → AreBytes xs → AreBytes ys
    → little_number n xs ≡ little_number n ys → xs ≡ ys
same_bytes n xs ys long longer few fewer h = ext_get_or 0 xs ys (omega (arith, long, longer)) each
  where
    each : (i : ℕ) → i < length xs → get_or xs i 0 ≡ get_or ys i 0
    each i low =
        let at : 0 + i ≡ i = omega arith in
        rw at at (same_digits n 0 xs ys few fewer h i (omega (arith, low, long)))

-- Two parts that overlap or meet tell the whole.
pub same_parts : (n m : ℕ) (xs ys : List ℕ) → m ≤ n → take n xs ≡ take n ys → drop m xs ≡ drop m ys → xs ≡ ys
same_parts n m xs ys low front back =
    let sum : m + (n - m) ≡ n = omega (arith, low) in
    let behind : drop n xs ≡ drop n ys =
    rw (← sum) (sym (drop-drop (n - m) m xs) ∙ ap (λ zs. drop (n - m) zs) back ∙ drop-drop (n - m) m ys) in
    sym (take-append-drop n xs) ∙ ap (λ zs. zs ++ drop n xs) front ∙ ap (λ zs. take n ys ++ zs) behind
    ∙ take-append-drop n ys

-- What is behind a place, read up to the end.
pub rest_whole : (m : ℕ) (xs : List ℕ) → take (length xs - m) (drop m xs) ≡ drop m xs
rest_whole m xs = let long = length-drop m xs in take_all (length xs - m) (drop m xs) (omega (arith, long))
