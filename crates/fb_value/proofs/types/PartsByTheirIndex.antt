-- The parts of a vector or struct, by their index.
use Rattle.std.proofs.Common.{◌≡◌, ℕ, zero, suc, ◌<◌, List, [], ◌∷◌, length, Some, refl, ap, arith}
use Rattle.fb_value.specs.Datum.{Datum, Parts, no_parts, more_parts, count}
use Rattle.fb_value.specs.Nth.{nth_part}
use Rattle.fb_value.specs.View.{parts_in}

pub count_parts : (ds : List Datum) → count (parts_in ds) ≡ length ds
count_parts [] = refl
count_parts (d ∷ ds) = ap suc (count_parts ds)

pub part_there : (ds : Parts) (i : ℕ) → i < count ds → (d : Datum) × (nth_part ds i ≡ Some d)
part_there no_parts i less = absurd (omega (arith, less))
part_there (more_parts d ds) zero less = (d, refl)
part_there (more_parts d ds) (suc i) less = part_there ds i (omega (arith, less))
