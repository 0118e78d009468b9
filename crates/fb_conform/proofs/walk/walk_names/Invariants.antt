use Rattle.fb_conform.specs.Listed.{Lists, IsOfNamesBelow}
use Rattle.fb_conform.proofs.walk.walk_names.Given as goal

abbrev pub invariant-loop-slot : goal.invariant-loop-slot
invariant-loop-slot g l =
    Lists l.old l.new g.H.DifferenceHearer.wants (IsOfNamesBelow l.type_id.0 l.slot)
    (g.H.DifferenceHearer.heard l.hearer)
