use Rattle.fb_text.specs.Indents.{levels_blanks}
use Rattle.fb_text.specs.Writes.{State, state_of, Adds}
use Rattle.fb_text.proofs.lines.put_levels.Given as goal

-- What adds the levels that are left adds, with what was added, all of them.
abbrev pub invariant-loop-left : goal.invariant-loop-left
invariant-loop-left g l =
    (end : State) → Adds (state_of g.W.Write.contents l.out) end (levels_blanks l.left)
    → Adds (state_of g.W.Write.contents l.initial.out) end (levels_blanks l.levels)

abbrev pub decreases-loop-left : goal.decreases-loop-left
decreases-loop-left g l = l.left
