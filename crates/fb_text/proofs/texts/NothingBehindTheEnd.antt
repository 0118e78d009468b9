-- Nothing is behind the last field, or behind the last part.
use Rattle.std.proofs.Common.{◌≡◌, ℕ, zero, suc, ◌<◌, ◌≤◌, List, [], ◌∷◌, length, slice_get, None, Some, refl}
use Rattle.std.proofs.Common.{arith}
use Rattle.fb_schema.specs.Schema.{DeclaredField}
use Rattle.fb_value.specs.Datum.{Parts, no_parts, more_parts, count}
use Rattle.fb_read.specs.Tails.{parts_from}
use Rattle.fb_json.specs.declared.faults.Place.{Place}
use Rattle.fb_text.specs.Unnamed.{first_in_parts}

pub there_within : (fs : List DeclaredField) (k : ℕ) (f : DeclaredField) → slice_get fs k ≡ Some f → k < length fs
there_within [] k f e = cc
there_within (g ∷ fs) zero f e = omega arith
there_within (g ∷ fs) (suc k) f e = omega (arith, there_within fs k f e)

pub parts_end : (at : Place) (i : ℕ) (ds : Parts) → count ds ≤ i → None ≡ first_in_parts at (parts_from i ds)
parts_end at zero no_parts past = refl
parts_end at (suc i) no_parts past = refl
parts_end at zero (more_parts d ds) past = absurd (omega arith)
parts_end at (suc i) (more_parts d ds) past = parts_end at i ds (omega arith)
