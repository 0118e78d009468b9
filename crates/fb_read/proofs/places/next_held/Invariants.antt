use Rattle.std.proofs.Common.{◌≡◌, ℕ, ◌<◌, ◌≤◌}
use Rattle.fb_value.specs.Places.{slot_number}
use Rattle.fb_read.proofs.places.next_held.Given as goal

abbrev pub invariant-loop-slot : goal.invariant-loop-slot
invariant-loop-slot l = (k : ℕ) → l.from ≤ k → k < l.slot → slot_number l.bytes l.at k ≡ 0
