use Rattle.std.proofs.Common.{◌≡◌, ◌+◌, ◌*◌, take, map}
use Rattle.fb_value.specs.View.{view}
use Rattle.fb_conform.specs.Carry.{carry}
use Rattle.fb_owned.proofs.carried_values.EntriesAreCarriedInOrder.{SoFar}
use Rattle.fb_owned.proofs.carried_values.+carry.Given as goal

abbrev pub invariant-carry_parts-loop-part : goal.invariant-carry_parts-loop-part
invariant-carry_parts-loop-part l =
    map view l.carried.items ≡ map (λ d. carry l.versions.before.now l.versions.after.now d)
    (map view (take l.part-index l.parts))

abbrev pub invariant-carry_entries-loop-i : goal.invariant-carry_entries-loop-i
invariant-carry_entries-loop-i l = SoFar l.versions.before.now l.versions.after.now l.slots l.entries l.i
    l.carried.items

-- The depth goes down, and at one depth a caller ranks above what it calls.
abbrev pub decreases-carry_in : goal.decreases-carry_in
decreases-carry_in l = 3 * goal.size-carry_in l

abbrev pub decreases-carry_parts : goal.decreases-carry_parts
decreases-carry_parts l = 3 * goal.size-carry_parts l + 1

abbrev pub decreases-carry_entry : goal.decreases-carry_entry
decreases-carry_entry l = 3 * goal.size-carry_entry l + 1

abbrev pub decreases-carry_entries : goal.decreases-carry_entries
decreases-carry_entries l = 3 * goal.size-carry_entries l + 2
