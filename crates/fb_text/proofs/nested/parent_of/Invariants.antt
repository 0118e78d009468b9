use Rattle.std.proofs.Common.{ℕ, ◌-◌, ◌<◌, ◌≤◌, List, Bool, Option, Some}
use Rattle.fb_value.specs.Datum.{Parts, a_struct}
use Rattle.fb_text.specs.Nested.{StandsIn}
use Rattle.fb_text.proofs.nested.StructStandsInItsParent.{OnTheWay}
use Rattle.fb_text.proofs.nested.parent_of.Given as goal

abbrev pub invariant-loop-level : goal.invariant-loop-level
invariant-loop-level g l = record {
  heavy : 0 < g.S.Shown.weight l.here.shown;
  light : g.S.Shown.weight l.here.shown ≤ g.S.Shown.weight l.fn.shown;
  way : (defaults : Bool) (indent : Option (List ℕ)) (ds es : Parts) (behind : List ℕ)
      → g.S.Shown.shows l.fn.shown l.layout (Some (a_struct ds))
      → StandsIn l.layout defaults indent l.fn.structure ds l.inner.depth l.inner.at l.inner.structure es
      behind
      → OnTheWay l.layout defaults indent l.fn.structure ds
      (λ ms. g.S.Shown.shows l.here.shown l.layout (Some (a_struct ms))) l._level l.here.at l.here.structure
      (l.inner.depth - l._level) l.inner.at l.inner.structure es behind;
}
