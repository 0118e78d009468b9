use Rattle.std.proofs.Common.{◌≡◌, ◌≤◌, None, Some, sym, arith}
use Rattle.fb_layout.specs.Laid.{stored_kind, slots_of}
use Rattle.fb_value.specs.Datum.{a_table, count}
use Rattle.fb_text.specs.Unnamed.{unnamed_from}
use Rattle.fb_text.proofs.texts.NothingBehindTheEnd.{parts_end}
use Rattle.fb_text.proofs.unnamed.OneEntryMore.{plain_kind, table_case, entries_end, fields_named}
use Rattle.fb_text.proofs.unnamed.OneEntryMore.{items_named}
use Rattle.fb_text.proofs.stored.EntryShown.searched.Goals as goal

pub returns-in-Table-clause-behind : goal.returns-in-Table-clause-behind
returns-in-Table-clause-behind c L o at shown =
    let view = c.in-Table.view in
    let shows = rw c.in-Table.is at shown in
    rw shows.2 (table_case view (λ d. unnamed_from at (Some d) c.from.result ≡ None) shows.1 shows.3 (λ u es here.
    sym (entries_end view.layout.now view.bytes.now u c.from.result c.from.result
    (slots_of view.layout.now view.table.0) _ es here.2
    (λ i s past there. c.stored_slots.ensures.behind (a_table u es) i s here (omega (arith, past, c.from.ensures))
    there))))

pub returns-in-Fixed-clause-behind : goal.returns-in-Fixed-clause-behind
returns-in-Fixed-clause-behind c L o at shown =
    let shows = rw c.in-Fixed.is at shown in
    rw shows.2 (sym (fields_named _ _ _ _ _ at shows.1 shows.3))

pub returns-in-Table-kind-clause-behind : goal.returns-in-Table-kind-clause-behind
returns-in-Table-kind-clause-behind c L o at shown =
    let shows = rw c.in-Vector.is at shown in
    let over : count shows.1 ≤ c.count.result = omega (arith, shows.3.0, c.count.ensures) in
    rw shows.2 (sym (parts_end at c.count.result shows.1 over))

pub returns-in_default-clause-behind : goal.returns-in_default-clause-behind
returns-in_default-clause-behind c L o at shown =
    let shows = rw c.in-Vector.is at shown in
    let items = c.in-Vector.items in
    let K = items.layout.now in
    rw shows.2 (sym (items_named K items.bytes.now (stored_kind K.schema items.kind) items.at at shows.1
    (plain_kind K.schema items.kind c.in_default.not-Table) shows.3.1))
