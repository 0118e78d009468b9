use Rattle.std.proofs.Common.{◌≡◌}
use Rattle.fb_value.specs.Datum.{a_table}
use Rattle.fb_value.specs.Nth.{nth_entry}
use Rattle.fb_read.specs.Shows.{Shows}
use Rattle.fb_text.proofs.stored.DefaultsAreNotPrinted.{unprinted_behind}
use Rattle.fb_text.proofs.stored.EntryShown.next_printed.Goals as goal

pub returns-in-Table-clause-unprinted : goal.returns-in-Table-clause-unprinted
returns-in-Table-clause-unprinted c L t es k f shows low past there =
    let view = c.in-Table.view in
    let here = rw c.in-Table.is at shows in
    let same : here.1 ≡ a_table t es = cc in
    let lies : Shows view (a_table t es) = rw same at here.3 in
    rw c.if-not-defaults.true
    (unprinted_behind L view.layout.now t view.table.0 k f (nth_entry es k) here.0 lies.1 there
    (λ s found. c.next_stored.ensures.unset (a_table t es) k s lies low past found))
