use Rattle.std.proofs.Common.{◌≡◌, ◌-◌, ◌≤◌, Option}
use Rattle.fb_layout.specs.Laid.{LaidSchema}
use Rattle.fb_value.specs.Datum.{Datum}
use Rattle.fb_text.specs.Printed.{first_in_entry}
use Rattle.fb_text.specs.Unnamed.{unnamed_from}
use Rattle.fb_text.proofs.unnamed.+first_unnamed.Given as goal

abbrev pub decreases-first_unnamed : goal.decreases-first_unnamed
decreases-first_unnamed g l = g.S.Shown.weight l.shown

abbrev pub decreases-loop-i : goal.decreases-loop-i
decreases-loop-i g l = l.end - l.i

abbrev pub invariant-loop-i : goal.invariant-loop-i
invariant-loop-i g l = record {
  within : l.i ≤ l.end;
  named : (L : LaidSchema) (o : Option Datum) → g.S.Shown.shows l.fn.shown L o
      → unnamed_from l.place o l.i ≡ first_in_entry l.place o;
}
