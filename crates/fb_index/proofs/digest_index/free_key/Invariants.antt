use Rattle.std.proofs.Common.{◌≡◌, ℕ, ◌<◌, nat_eq, true}
use Rattle.std.specs.List.{list_any}
use Rattle.fb_index.specs.DigestIndexes.{key_after}
use Rattle.fb_index.proofs.digest_index.free_key.Given as goal

abbrev pub invariant-loop-steps : goal.invariant-loop-steps
invariant-loop-steps l = (n : ℕ) → n < l.steps → list_any (nat_eq (key_after l.digest n)) l.taken.keys ≡ true
