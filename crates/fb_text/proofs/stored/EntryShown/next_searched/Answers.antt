use Rattle.std.proofs.Common.{◌≡◌, None, Some, sym}
use Rattle.fb_layout.specs.Laid.{slots_of}
use Rattle.fb_value.specs.Datum.{a_table}
use Rattle.fb_text.specs.Printed.{first_in_entry}
use Rattle.fb_text.specs.Unnamed.{nth_child}
use Rattle.fb_text.proofs.unnamed.OneEntryMore.{table_case, unset_named}
use Rattle.fb_text.proofs.stored.EntryShown.next_searched.Goals as goal

pub returns-in-Table-clause-named : goal.returns-in-Table-clause-named
returns-in-Table-clause-named c L o at k shown low past =
    let view = c.in-Table.view in
    let shows = rw c.in-Table.is at shown in
    rw shows.2 (table_case view (λ d. first_in_entry at (nth_child (Some d) k) ≡ None) shows.1 shows.3 (λ u es here.
    sym (unset_named view.layout.now view.bytes.now at k (slots_of view.layout.now view.table.0) _ es here.2
    (λ s there. c.next_stored.ensures.unset (a_table u es) k s here low past there))))
