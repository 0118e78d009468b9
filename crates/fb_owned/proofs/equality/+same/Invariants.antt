use Rattle.std.proofs.Common.{◌≡◌, ◌+◌, ◌*◌, take, map, option_map}
use Rattle.fb_value.specs.View.{view}
use Rattle.fb_owned.proofs.equality.+same.Given as goal

abbrev pub invariant-same_parts-loop-i : goal.invariant-same_parts-loop-i
invariant-same_parts-loop-i l = map view (take l.i l.first) ≡ map view (take l.i l.second)

abbrev pub invariant-same_entries-loop-i : goal.invariant-same_entries-loop-i
invariant-same_entries-loop-i l = map (option_map view) (take l.i l.first)
    ≡ map (option_map view) (take l.i l.second)

-- The depth goes down, and at one depth a caller ranks above what it calls.
abbrev pub decreases-same_in : goal.decreases-same_in
decreases-same_in l = 3 * goal.size-same_in l

abbrev pub decreases-same_parts : goal.decreases-same_parts
decreases-same_parts l = 3 * goal.size-same_parts l + 1

abbrev pub decreases-same_entry : goal.decreases-same_entry
decreases-same_entry l = 3 * goal.size-same_entry l + 1

abbrev pub decreases-same_entries : goal.decreases-same_entries
decreases-same_entries l = 3 * goal.size-same_entries l + 2
