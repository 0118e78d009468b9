-- Behind the last element of a vector is none.
use Rattle.std.proofs.Common.{◌≡◌, ℕ, zero, suc, ◌≤◌, None, refl, arith}
use Rattle.fb_value.specs.Datum.{Parts, no_parts, more_parts, count}
use Rattle.fb_value.specs.Nth.{nth_part}

pub none_behind : (ds : Parts) (i : ℕ) → count ds ≤ i → nth_part ds i ≡ None
none_behind no_parts i past = refl
none_behind (more_parts d ds) zero past = absurd (omega arith)
none_behind (more_parts d ds) (suc i) past = none_behind ds i (omega arith)
