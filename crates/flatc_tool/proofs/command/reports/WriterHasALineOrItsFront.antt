-- What a writer has got of a line.
use Rattle.std.proofs.Common.{◌≡◌, ◌<◌, ◌≤◌, ℕ, ◌+◌, ◌-◌, List, ◌++◌, Bool, true, false, Option, length, take}
use Rattle.std.proofs.Common.{drop, refl, sym, ap, ◌∙◌, subst, arith}
use Rattle.std.proofs.Math.Seq.{take-add, take-length}
use Rattle.std.proofs.lemmas.List.{take_rest}
use Rattle.std.specs.Io.KnownBytes.{Appends}

-- the front of a list, and then the front of what is left of it
pub front_grows : (xs : List ℕ) (i n : ℕ) → take i xs ++ take n (take (length xs - i) (drop i xs)) ≡ take (i + n) xs
front_grows xs i n = ap (λ l. take i xs ++ take n l) (take_rest xs i) ∙ sym (take-add i n xs)

-- a line was written, whole or cut
pub front_of_a_line : (line : List ℕ) (start known : Option (List ℕ)) (all : Bool)
    → (all ≡ true → Appends start known line)
    → (all ≡ false → (m : ℕ) × (m < length line) × Appends start known (take m line))
    → (m : ℕ) × (m ≤ length line) × Appends start known (take m line)
front_of_a_line line start known true whole cut =
    (length line, omega arith, subst (Appends start known) (sym (take-length line)) (whole refl))
front_of_a_line line start known false whole cut =
    let front = cut refl in
    let short = front.1 in
    (front.0, omega (arith, short), front.2)
