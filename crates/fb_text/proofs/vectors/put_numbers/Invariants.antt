use Rattle.std.proofs.Common.{Bool, false}
use Rattle.fb_value.specs.Datum.{Parts}
use Rattle.fb_read.specs.Tails.{parts_from}
use Rattle.fb_read.specs.TypedItems.{AreNumbers}
use Rattle.fb_text.specs.Indents.{blanks}
use Rattle.fb_text.specs.Texts.{items_text}
use Rattle.fb_text.specs.Writes.{State, state_of, Adds}
use Rattle.fb_text.proofs.vectors.put_numbers.Given as goal

-- What adds the rest adds, with what was added, all of it.
abbrev pub invariant-loop-i : goal.invariant-loop-i
invariant-loop-i g l =
    (defaults : Bool) (ds : Parts) → AreNumbers l.numbers ds → (end : State)
    → Adds (state_of g.W.Write.contents l.out) end
    (items_text l.layout defaults (blanks l.inner) (blanks l.indent) l.fn.kind l.some (parts_from l.i ds))
    → Adds (state_of g.W.Write.contents l.initial.out) end
    (items_text l.layout defaults (blanks l.inner) (blanks l.indent) l.fn.kind false ds)
