use Rattle.fb_conform.specs.Listed.{Lists, IsOfSlotsBelow}
use Rattle.fb_conform.proofs.walk.walk_slots.Given as goal

abbrev pub invariant-loop-i : goal.invariant-loop-i
invariant-loop-i g l = Lists l.old l.new g.H.DifferenceHearer.wants (IsOfSlotsBelow l.type_id.0 l.i)
    (g.H.DifferenceHearer.heard l.hearer)
