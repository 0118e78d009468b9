use Rattle.std.proofs.Common.{◌≡◌, ◌+◌, ◌-◌, ℕ, ◌<◌, ◌≤◌}
use Rattle.fb_value.specs.Places.{slot_number}
use Rattle.fb_read.proofs.places.skip_fours.Given as goal

abbrev pub decreases-loop-slot : goal.decreases-loop-slot
decreases-loop-slot l = l.end + 1 - l.slot

abbrev pub invariant-loop-slot : goal.invariant-loop-slot
invariant-loop-slot l = record {
  from : l.from ≤ l.slot;
  within : l.slot ≤ l.end;
  unset : (k : ℕ) → l.from ≤ k → k < l.slot → slot_number l.bytes l.at k ≡ 0;
}
