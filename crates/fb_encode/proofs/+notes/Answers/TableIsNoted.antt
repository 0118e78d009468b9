-- A table is noted slot by slot.
use Rattle.std.proofs.Common.{◌∙◌, None, sym, ap, map, arith, inl, option_map, ◌-◌}
use Rattle.std.proofs.lemmas.List.{length-map}
use Rattle.std.proofs.lemmas.Result.{err_from_is_err_and}
use Rattle.serde_json.specs.View.{members_view}
use Rattle.fb_schema.specs.Seen.{field_seen}
use Rattle.fb_layout.specs.Laid.{slot_of}
use Rattle.fb_value.specs.Datum.{a_number}
use Rattle.fb_json.specs.Meant.{look, slot_place}
use Rattle.fb_json.specs.SlotMembers.{looked_up}
use Rattle.fb_json.proofs.slots.MemberAtItsSlot.{looked_up_at}
use Rattle.fb_json.proofs.slots.OneSlotOrFieldMore.{fails_by, fails_is, slot_at}
use Rattle.fb_json.proofs.slots.SlotsDecideTheTable.{table_fails, table_gives, table_unknown}
use Rattle.fb_build.proofs.fields.CodeIsBeforeItsUnion.{slots_paired}
use Rattle.fb_build.proofs.fields.NumbersHaveDefaults.{marks_at}
use Rattle.fb_encode.proofs.entries.SlotStoresNothing.{given_nothing, nothing_noted}
use Rattle.fb_encode.proofs.tables.SlotsAreNoted.{all_given, entry_by, next_noted, no_cell, none_noted, open_table}
use Rattle.fb_encode.proofs.tables.SlotsAreNoted.{slot_there, table_noted, too_deep, ungiven, untold}
use Rattle.fb_encode.proofs.+notes.Goals as goal
use Rattle.fb_layout.proofs.slots.SlotsAreAsManyAsFields.{slots_long}
use Rattle.fb_tape.proofs.stored.OpenFieldsAreAdded.{opened_again, opened_within}

pub deep_table_refused : goal.tables::note_table-returns-then-levels-eq0-clause-refused
deep_table_refused t c =
    let ms = members_view c.args.members.now.entries in
    let L = c.args.source.layout.now in
    too_deep L c.args.source.unknown ms (look L c.args.source.unknown ms) c.args.owner.0 c.args.place c.args.levels
    c.args.left c.if-levels-eq0.true

pub last_table_refused : goal.tables::note_table-returns-then-left-eq0-clause-refused
last_table_refused t c =
    let ms = members_view c.args.members.now.entries in
    let L = c.args.source.layout.now in
    no_cell L c.args.source.unknown ms (look L c.args.source.unknown ms) c.args.owner.0 c.args.place c.args.levels
    c.args.left (omega (arith, c.if-levels-eq0.false)) c.if-left-eq0.true

pub slots_are_those : goal.tables::note_table-members_by_slot-requires
slots_are_those t c = inl c.slots_of-slots.ensures.slots

pub unknown_member_refused : goal.tables::note_table-returns-in_err-members_by_slot-clause-refused
unknown_member_refused t c =
    let ms = members_view c.args.members.now.entries in
    let L = c.args.source.layout.now in
    let u = c.args.source.unknown in
    let p = err_from_is_err_and c.from_residual.result c.from_residual.ensures.1 in
    let fault = c.in_err-members_by_slot.field-0.0 in
    rw (p.1, p.2) (fails_by fault _ _ (λ h. table_unknown L u ms (look L u ms) c.args.owner.0 c.args.place
    c.args.levels c.args.left fault (omega (arith, c.if-levels-eq0.false)) (omega (arith, c.if-left-eq0.false)) h)
    c.in_err-members_by_slot.ensures.known)

pub no_slot_yet : goal.tables::note_table-loop-k-init
no_slot_yet t c = none_noted _ _ _ _ _ _ _ _ c.requires.whole

pub next_absent_noted : goal.tables::note_table-loop-k-preserved-then-is_absent
next_absent_noted t c =
    let ms = members_view c.args.members.now.entries in
    let L = c.args.source.layout.now in
    let u = c.args.source.unknown in
    let slots = c.slots_of-slots.result.now in
    let k = c.loop-k.k in
    let f = c.index-slots-k.result in
    let trees = c.members_by_slot.new.found in
    let members = c.in_ok-members_by_slot.ensures.members in
    let inv = c.loop-k.invariant in
    let at = slot_at slots k f c.loop-k-test.true c.index-slots-k.is in
    let none = c.is_absent.ensures.none c.if-is_absent.true in
    let seen = looked_up_at trees (map field_seen slots) ms members k (field_seen f) at c.get-tree.result L u
    c.get-tree.ensures.is ∙ ap (looked_up L u) none in
    let place = slot_place c.args.owner.0 k in
    let x = option_map a_number (slot_of L.schema (field_seen f)).if_absent in
    let given = c.is_absent.ensures.entry L (look L u ms) place c.loop-k.code (c.args.levels - 1) c.loop-k.left
    c.if-is_absent.true seen in
    let marks = marks_at L.schema c.layout_is_well_made.ensures.declared c.args.owner.0 k (field_seen f)
    (rw c.slots_of-slots.ensures.slots at at) in
    let nothing = given_nothing L (field_seen f) marks u c.loop-k.code place (c.args.levels - 1) c.loop-k.left x
    c.loop-k.left (sym (entry_by L u (look L u ms) (field_seen f) None place c.loop-k.code (c.args.levels - 1)
    c.loop-k.left seen) ∙ given) in
    next_noted L (look L u ms) c.args.owner.0 slots k f c.loop-k-test.true c.index-slots-k.is c.loop-k.code
    (c.args.levels - 1) (c.args.left - 1) c.loop-k.left _ _ _ _ inv
    (slot_there L c.args.owner.0 slots k f c.slots_of-slots.ensures.slots at)
    (slots_paired L c.layout_is_well_made.ensures.declared c.args.owner.0) _ _ c.loop-k.code c.loop-k.left
    (c.is_absent.ensures.code L.schema (look L u ms) place c.loop-k.code c.if-is_absent.true)
    (nothing_noted L k (slot_of L.schema (field_seen f)) _ x c.loop-k.left _ _ inv.adds.whole given nothing)

pub code_fault_refused : goal.tables::note_table-returns-in_err-code-clause-refused
code_fault_refused t c =
    let ms = members_view c.args.members.now.entries in
    let L = c.args.source.layout.now in
    let u = c.args.source.unknown in
    let slots = c.slots_of-slots.result.now in
    let k = c.loop-k.k in
    let f = c.index-slots-k.result in
    let trees = c.members_by_slot.new.found in
    let members = c.in_ok-members_by_slot.ensures.members in
    let at = slot_at slots k f c.loop-k-test.true c.index-slots-k.is in
    let seen = looked_up_at trees (map field_seen slots) ms members k (field_seen f) at c.get-tree.result L u
    c.get-tree.ensures.is in
    let fault = c.in_err-code.field-0.0 in
    let p = err_from_is_err_and c.from_residual-in_err-code.result c.from_residual-in_err-code.ensures.1 in
    let untold = untold L (look L u ms) c.args.owner.0 slots k f c.loop-k-test.true c.index-slots-k.is c.loop-k.code
    (c.args.levels - 1) (c.args.left - 1) c.loop-k.left _ _ _ _ c.loop-k.invariant fault
    (sym (c.in_err-code.ensures (look L u ms) seen)) in
    rw (p.1, p.2) (fails_is fault _ (table_fails L u ms (look L u ms) c.args.owner.0 c.args.place c.args.levels
    c.args.left fault (omega (arith, c.if-levels-eq0.false)) (omega (arith, c.if-left-eq0.false))
    c.in_ok-members_by_slot.ensures.known (rw c.slots_of-slots.ensures.slots at untold)))

pub next_slot_fits : goal.tables::note_table-note_slot-requires
next_slot_fits t c =
    let L = c.args.source.layout.now in
    let slots = c.slots_of-slots.result.now in
    let k = c.loop-k.k in
    let f = c.index-slots-k.result in
    let inv = c.loop-k.invariant in
    let at = slot_at slots k f c.loop-k-test.true c.index-slots-k.is in (
      omega (arith, c.decreases, c.if-levels-eq0.false),
      (
        inv.adds.layout ∙ c.requires.layout,
        (
          inv.adds.whole,
          (
            slot_there L c.args.owner.0 slots k f c.slots_of-slots.ensures.slots at,
            marks_at L.schema c.layout_is_well_made.ensures.declared c.args.owner.0 k (field_seen f)
                (rw c.slots_of-slots.ensures.slots at at),
          ),
        ),
      ),
    )

pub slot_fault_refused : goal.tables::note_table-returns-in_err-left-clause-refused
slot_fault_refused t c =
    let ms = members_view c.args.members.now.entries in
    let L = c.args.source.layout.now in
    let u = c.args.source.unknown in
    let slots = c.slots_of-slots.result.now in
    let k = c.loop-k.k in
    let f = c.index-slots-k.result in
    let trees = c.members_by_slot.new.found in
    let members = c.in_ok-members_by_slot.ensures.members in
    let at = slot_at slots k f c.loop-k-test.true c.index-slots-k.is in
    let seen = looked_up_at trees (map field_seen slots) ms members k (field_seen f) at c.get-tree.result L u
    c.get-tree.ensures.is in
    let place = slot_place c.args.owner.0 k in
    let fault = c.in_err-left.field-0.0 in
    let p = err_from_is_err_and c.from_residual-in_err-left.result c.from_residual-in_err-left.ensures.1 in
    let by = entry_by L u (look L u ms) (field_seen f) c.get-tree.result place c.in_ok-code.code
    (c.args.levels - 1) c.loop-k.left seen in
    let told = sym (c.in_ok-code.ensures (look L u ms) seen) in
    rw (p.1, p.2) (fails_by fault _ _ (λ h. table_fails L u ms (look L u ms) c.args.owner.0 c.args.place c.args.levels
    c.args.left fault (omega (arith, c.if-levels-eq0.false)) (omega (arith, c.if-left-eq0.false))
    c.in_ok-members_by_slot.ensures.known (rw c.slots_of-slots.ensures.slots at (ungiven L (look L u ms) c.args.owner.0
    slots k f c.loop-k-test.true c.index-slots-k.is c.loop-k.code (c.args.levels - 1) (c.args.left - 1) c.loop-k.left
    _ _ _ _ c.loop-k.invariant c.in_ok-code.code fault told (by ∙ h)))) c.in_err-left.ensures.refused)

pub next_slot_noted : goal.tables::note_table-loop-k-preserved
next_slot_noted t c =
    let ms = members_view c.args.members.now.entries in
    let L = c.args.source.layout.now in
    let u = c.args.source.unknown in
    let slots = c.slots_of-slots.result.now in
    let k = c.loop-k.k in
    let f = c.index-slots-k.result in
    let trees = c.members_by_slot.new.found in
    let members = c.in_ok-members_by_slot.ensures.members in
    let at = slot_at slots k f c.loop-k-test.true c.index-slots-k.is in
    let seen = looked_up_at trees (map field_seen slots) ms members k (field_seen f) at c.get-tree.result L u
    c.get-tree.ensures.is in
    let place = slot_place c.args.owner.0 k in
    let by = entry_by L u (look L u ms) (field_seen f) c.get-tree.result place c.in_ok-code.code
    (c.args.levels - 1) c.loop-k.left seen in
    next_noted L (look L u ms) c.args.owner.0 slots k f c.loop-k-test.true c.index-slots-k.is c.loop-k.code
    (c.args.levels - 1) (c.args.left - 1) c.loop-k.left _ _ _ _ c.loop-k.invariant
    (slot_there L c.args.owner.0 slots k f c.slots_of-slots.ensures.slots at)
    (slots_paired L c.layout_is_well_made.ensures.declared c.args.owner.0) _ _ c.in_ok-code.code c.in_ok-left.left
    (sym (c.in_ok-code.ensures (look L u ms) seen)) (rw by c.in_ok-left.ensures.noted)

pub fields_are_stored : goal.tables::note_table-close_table-requires-clause-stored
fields_are_stored t c =
    let ms = members_view c.args.members.now.entries in
    let L = c.args.source.layout.now in
    let slots = c.slots_of-slots.result.now in
    let inv = c.loop-k.invariant in
    let same = inv.adds.layout ∙ c.requires.layout in
    let long = slots_long L c.args.owner.0 slots c.slots_of-slots.ensures.slots in (
      inv.entries,
      rw (same, c.len-first.ensures.exact) (open_table L (look L c.args.source.unknown ms) c.args.owner.0 slots
          c.loop-k.k c.loop-k.code (c.args.levels - 1) (c.args.left - 1) c.loop-k.left _ _ _ _ c.loop-k-test.false inv
          c.layout_is_well_made.ensures (omega (arith, long, c.loop-k-test.false, c.loop-k.auto.k-end))),
    )

pub table_adds_itself : goal.tables::note_table-returns-clause-noted
table_adds_itself t c =
    let ms = members_view c.args.members.now.entries in
    let L = c.args.source.layout.now in
    let u = c.args.source.unknown in
    let slots = c.slots_of-slots.result.now in
    let inv = c.loop-k.invariant in
    let same = inv.adds.layout ∙ c.requires.layout in
    let long = slots_long L c.args.owner.0 slots c.slots_of-slots.ensures.slots in
    let given = all_given L (look L u ms) c.args.owner.0 slots c.loop-k.k c.loop-k.code (c.args.levels - 1)
    (c.args.left - 1) c.loop-k.left _ _ _ _ c.loop-k-test.false inv in
    let table = table_gives L u ms (look L u ms) c.args.owner.0 c.args.place c.args.levels c.args.left inv.entries
    c.loop-k.left (omega (arith, c.if-levels-eq0.false)) (omega (arith, c.if-left-eq0.false))
    c.in_ok-members_by_slot.ensures.known (rw c.slots_of-slots.ensures.slots at given) in
    table_noted L (look L u ms) c.args.owner.0 slots c.loop-k.k c.loop-k.code (c.args.levels - 1) (c.args.left - 1)
    c.loop-k.left _ _ _ _ c.loop-k-test.false inv c.layout_is_well_made.ensures
    (omega (arith, long, c.loop-k-test.false, c.loop-k.auto.k-end)) _ table c.close_table.new.self
    c.loop-k.noting.tape.layout same (rw c.len-first.ensures.exact at c.in_ok-close_table.ensures.waits)
    (rw same at c.in_ok-close_table.ensures.room) c.in_ok-close_table.ensures.whole c.in_ok-close_table.ensures.layout

pub slot_has_a_tree : goal.tables::note_table-get-tree-requires
slot_has_a_tree t c =
    let all = c.in_ok-members_by_slot.ensures.members.all in
    record { within = omega (arith, all, length-map c.slots_of-slots.result.now field_seen, c.loop-k-test.true) }

pub first_within : goal.tables::note_table-close_table-requires-clause-within
first_within t c =
    let opens = c.loop-k.invariant.opens in rw c.len-first.ensures.exact (opened_within _ _ opens.0 opens.1)

pub first_kept : goal.tables::note_table-truncate-requires
first_kept t c =
    let opens = c.loop-k.invariant.opens in
    record { within = rw c.len-first.ensures.exact (opened_within _ _ opens.0 opens.1) }

pub fields_are_closed : goal.tables::note_table-returns-clause-opened
fields_are_closed t c =
    let opens = c.loop-k.invariant.opens in
    c.truncate.ensures.first ∙ rw c.len-first.ensures.exact (opened_again _ _ opens.0 opens.1)
