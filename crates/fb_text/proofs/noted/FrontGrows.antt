-- Bytes that a writer has got.
use Rattle.std.proofs.Common.{◌≡◌, ℕ, ◌+◌, ◌-◌, List, ◌++◌, length, take, drop, sym, ap, ◌∙◌}
use Rattle.std.proofs.Math.Seq.{take-add}
use Rattle.std.proofs.lemmas.List.{take_rest}

-- the front of a list, and then the front of what is left of it
pub front_grows : (xs : List ℕ) (i n : ℕ) → take i xs ++ take n (take (length xs - i) (drop i xs)) ≡ take (i + n) xs
front_grows xs i n = ap (λ l. take i xs ++ take n l) (take_rest xs i) ∙ sym (take-add i n xs)
