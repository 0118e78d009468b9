-- A number with a minus sign is read by the digits after it, and another by its own.
use Rattle.std.proofs.Common.{◌≡◌, ℕ, ◌==◌, if◌then◌else◌, Bool, true, false, List, Option, drop, slice_index, ap}
use Rattle.fast_float.specs.Text.{minus, scan}
use Rattle.serde_json.specs.Data.{Num}
use Rattle.serde_json.specs.Read.{number_from, number_of}

abbrev by_sign : List ℕ → Bool → Option Num
by_sign s b = if b then number_from true (scan (drop 1 s)) else number_from false (scan s)

pub with_minus : (s : List ℕ) → (slice_index s 0 == minus) ≡ true → number_of s ≡ number_from true (scan (drop 1 s))
unfolding number_of
with_minus s e = ap (by_sign s) e

pub without_minus : (s : List ℕ) → (slice_index s 0 == minus) ≡ false → number_of s ≡ number_from false (scan s)
unfolding number_of
without_minus s e = ap (by_sign s) e
