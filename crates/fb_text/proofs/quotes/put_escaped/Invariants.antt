use Rattle.std.proofs.Common.{length}
use Rattle.json.specs.Print.{escape}
use Rattle.fb_text.specs.Writes.{State, state_of, Adds}
use Rattle.fb_text.proofs.quotes.put_escaped.Given as goal

-- whatever adds the text that is left adds, with what was added, all of it
abbrev pub invariant-loop-left : goal.invariant-loop-left
invariant-loop-left g l =
    (end : State) → Adds (state_of g.W.Write.contents l.out) end (escape l.left)
    → Adds (state_of g.W.Write.contents l.initial.out) end (escape l.content)

abbrev pub decreases-loop-left : goal.decreases-loop-left
decreases-loop-left g l = length l.left
