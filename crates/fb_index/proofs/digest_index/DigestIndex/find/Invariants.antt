use Rattle.std.proofs.Common.{◌≡◌, ℕ, ◌<◌, nat_eq, position, false, Some}
use Rattle.fb_index.specs.DigestIndexes.{key_after}
use Rattle.fb_index.proofs.digest_index.DigestIndex.find.Given as goal

abbrev pub invariant-loop-steps : goal.invariant-loop-steps
invariant-loop-steps g l = (n place : ℕ) → n < l.steps
    → position (nat_eq (key_after l.digest n)) l.self-inside.keys.keys ≡ Some place → goal.F-post g l.is_there place false
