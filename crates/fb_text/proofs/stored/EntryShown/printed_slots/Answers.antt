use Rattle.std.proofs.Common.{◌≡◌, ◌≤◌, arith}
use Rattle.fb_value.specs.Datum.{a_table}
use Rattle.fb_value.specs.Nth.{nth_entry}
use Rattle.fb_read.specs.Shows.{Shows}
use Rattle.fb_text.proofs.texts.NothingBehindTheEnd.{there_within}
use Rattle.fb_text.proofs.stored.DefaultsAreNotPrinted.{unprinted_behind}
use Rattle.fb_text.proofs.stored.EntryShown.printed_slots.Goals as goal

pub returns-in-Table-2-clause-behind : goal.returns-in-Table-2-clause-behind
returns-in-Table-2-clause-behind c L t es k f shows all past there =
    let view = c.in-Table-2.view in
    let here = rw c.in-Table-2.is at shows in
    let same : here.1 ≡ a_table t es = cc in
    let lies : Shows view (a_table t es) = rw same at here.3 in
    let within = there_within _ k f there in
    let behind : c.stored_slots.result ≤ k = omega (arith, within, all, past, c.min.ensures, c.from.ensures) in
    rw c.if-defaults.false
    (unprinted_behind L view.layout.now t view.table.0 k f (nth_entry es k) here.0 lies.1 there
    (λ s found. c.stored_slots.ensures.behind (a_table t es) k s lies behind found))
