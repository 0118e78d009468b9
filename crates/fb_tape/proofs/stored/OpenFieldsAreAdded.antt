-- The fields that were open before a table's are in front of them.
use Rattle.std.proofs.Common.{◌≡◌, ◌∙◌, ◌≤◌, ◌++◌, List, length, take, ap, arith, length-append}
use Rattle.std.proofs.Math.Seq.{take-append_seam}
use Rattle.fb_tape.specs.OpenFields.{OpenField}

pub opened_within : (before now own : List OpenField) → now ≡ before ++ own → length before ≤ length now
opened_within before now own added = let long = ap length added ∙ length-append before own in omega (arith, long)

pub opened_again : (before now own : List OpenField) → now ≡ before ++ own → take (length before) now ≡ before
opened_again before now own added = rw added (take-append_seam before own)
