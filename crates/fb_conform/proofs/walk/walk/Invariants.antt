use Rattle.fb_conform.specs.Listed.{Lists, IsOfTypesBelow}
use Rattle.fb_conform.proofs.walk.walk.Given as goal

abbrev pub invariant-loop-i : goal.invariant-loop-i
invariant-loop-i g l = Lists l.old l.new g.H.DifferenceHearer.wants (IsOfTypesBelow l.i)
    (g.H.DifferenceHearer.heard l.hearer)
