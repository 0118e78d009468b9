use Rattle.std.proofs.Common.{◌≡◌, ◌∙◌, ap, sym}
use Rattle.fb_value.specs.Datum.{a_table}
use Rattle.fb_value.specs.View.{view, entries_in}
use Rattle.fb_owned.proofs.plans.Plan.finish.Goals as goal

pub returns-clause-holds : goal.returns-clause-holds
returns-clause-holds c most raw deep small =
    let inv = c.self.invariant in
    let value : a_table c.self.inside.plan.layout.schema.root (entries_in inv.entries) ≡ view c.args.self.value =
    sym inv.value ∙ ap (λ p. view p.value) c.self.view_is in
    let deep2 = rw (← value) at deep in
    let small2 = rw (← value) at small in
    let bare = rw inv.bare at (c.finish.ensures.holds inv.entries most raw inv.means deep2 small2) in
    let holds = rw value at bare in
    rw (← (ap (λ p. p.layout) c.self.view_is)) holds

pub returns-clause-old_slots : goal.returns-clause-old_slots
returns-clause-old_slots c = rw (← (ap (λ p. p.layout) c.self.view_is))
    (rw c.self.invariant.bare at c.finish.ensures.old_slots)

pub returns-clause-covered : goal.returns-clause-covered
returns-clause-covered c = rw (← (ap (λ p. p.layout) c.self.view_is))
    (rw c.self.invariant.bare at c.finish.ensures.covered)

pub returns-clause-aligned : goal.returns-clause-aligned
returns-clause-aligned c = rw (← (ap (λ p. p.layout) c.self.view_is))
    (rw c.self.invariant.bare at c.finish.ensures.aligned)
