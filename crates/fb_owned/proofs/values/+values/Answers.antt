use Rattle.std.proofs.Common.{◌≡◌, ◌∙◌, ℕ, List, length, map, Option, refl, sym, ap, arith}
use Rattle.std.proofs.lemmas.List.{length-map}
use Rattle.fb_schema.specs.declared.types.FieldInfo.{FieldInfo}
use Rattle.fb_schema.specs.Schema.{body_at, slots_in, parts_in as fields_in}
use Rattle.fb_schema.specs.Seen.{field_seen}
use Rattle.fb_layout.specs.Laid.{LaidSchema, slot_of, slots_of, parts_of, struct_at}
use Rattle.fb_value.specs.Datum.{Datum, Parts, SlotEntries, a_table, count}
use Rattle.fb_value.specs.Num.{Bytes}
use Rattle.fb_value.specs.Lies.{Lies, LiesParts}
use Rattle.fb_value.specs.Places.{table_part, part_place, named_slots}
use Rattle.fb_value.specs.View.{entries_view}
use Rattle.fb_value.specs.declared.values.Value.{Value}
use Rattle.fb_value.proofs.held.EachPartLiesInItsPlace.{parts_long}
use Rattle.fb_value.proofs.types.EachVariantHasItsView.{view-Fields}
use Rattle.fb_read.proofs.placed.PartsLieInTheirPlaces.{kinds_long}
use Rattle.fb_owned.proofs.values.FrontsGrow.{entry_more, entries_whole, value_more, none_missed, values_all}
use Rattle.fb_owned.proofs.values.+values.Goals.{values_of_fields-in-Some+in_ok-push, values_of_fields-in_default}
use Rattle.fb_owned.proofs.values.+values.Goals.{values_of_items-in-Some+in_ok-push, values_of_items-in_default}
use Rattle.fb_owned.proofs.values.+values.Goals as goal
use Rattle.fb_layout.proofs.slots.SlotsAreAsManyAsFields.{slots_long}

fields_long : (L : LaidSchema) (b : Bytes) (s p : ℕ) (fs : List FieldInfo) (ds : Parts)
    → map field_seen fs ≡ fields_in (body_at L.schema s)
    → LiesParts L b (parts_of L s) (struct_at L s).offsets p ds → count ds ≡ length fs
fields_long L b s p fs ds seen lies =
    parts_long L b (parts_of L s) (struct_at L s).offsets p ds lies ∙ (rw (← seen) (kinds_long L fs))

pub values_of_fields-loop-field-preserved : goal.values_of_fields-loop-field-preserved
values_of_fields-loop-field-preserved t c =
    let fixed = c.args.fixed in
    let i = c.loop-field.field in
    let found = c.in_ok-value.field-0 in
    elim c.match-branch-3.branch [
      | values_of_fields-in-Some+in_ok-push w ↦ λ ds shows.
          (let long = fields_long fixed.layout.now fixed.bytes.now fixed.structure.0 fixed.at
          c.parts_of-fields.result.now ds (rw (c.layout.ensures, c.type_id.ensures) at c.parts_of-fields.ensures.parts)
          shows in
          rw (w.values-is, w.in_ok-push.ensures.items)
          (value_more c.loop-field.values.items ds i found w.in-Some.value (c.loop-field.invariant ds shows)
          (omega (arith, long)) (c.in_ok-value.ensures _ _ (c.part.ensures.shows ds shows)) w.in-Some.is))
      | values_of_fields-in_default w ↦ λ ds shows.
          (let long = fields_long fixed.layout.now fixed.bytes.now fixed.structure.0 fixed.at
          c.parts_of-fields.result.now ds (rw (c.layout.ensures, c.type_id.ensures) at c.parts_of-fields.ensures.parts)
          shows in
          absurd (none_missed ds i found (omega (arith, long))
          (c.in_ok-value.ensures _ _ (c.part.ensures.shows ds shows)) w.in_default.is))
    ]

pub values_of_fields-returns : goal.values_of_fields-returns
values_of_fields-returns t c ds shows =
    let fixed = c.args.fixed in
    let long = fields_long fixed.layout.now fixed.bytes.now fixed.structure.0 fixed.at
    c.parts_of-fields.result.now ds (rw (c.layout.ensures, c.type_id.ensures) at c.parts_of-fields.ensures.parts)
    shows in
    values_all c.loop-field.values.items ds c.loop-field.field (c.loop-field.invariant ds shows) (omega (arith, long))

pub values_of_items-loop-i-preserved : goal.values_of_items-loop-i-preserved
values_of_items-loop-i-preserved t c =
    let found = c.in_ok-value.field-0 in
    elim c.match-branch-3.branch [
      | values_of_items-in-Some+in_ok-push w ↦ λ ds shows. rw (w.values-is, w.in_ok-push.ensures.items)
          (value_more c.loop-i.values.items ds c.loop-i.i found w.in-Some.value (c.loop-i.invariant ds shows)
          (omega (arith, shows.0)) (c.in_ok-value.ensures _ _ (c.item.ensures.shows ds shows)) w.in-Some.is)
      | values_of_items-in_default w ↦ λ ds shows.
          absurd (none_missed ds c.loop-i.i found (omega (arith, shows.0))
          (c.in_ok-value.ensures _ _ (c.item.ensures.shows ds shows)) w.in_default.is)
    ]

pub values_of_items-returns : goal.values_of_items-returns
values_of_items-returns t c ds shows =
    values_all c.loop-i.values.items ds c.loop-i.i (c.loop-i.invariant ds shows) (omega (arith, shows.0))

pub value_of_view-loop-slot-preserved : goal.value_of_view-loop-slot-preserved
value_of_view-loop-slot-preserved t c type es shows =
    let table = c.args.table in
    let L = table.layout.now in
    let b = table.bytes.now in
    let k = c.loop-slot.slot in
    let fs = slots_of L table.table.0 in
    let seen = rw (c.layout.ensures, c.type_id.ensures) at c.slots_of-slots.ensures.slots in
    let long = slots_long L table.table.0 c.slots_of-slots.result.now seen in
    rw c.in_ok-push.ensures.items (entry_more L b c.loop-slot.entries.items c.in_ok-value_of_entry.field-0 fs
    (named_slots L b table.at 0 fs) es k (c.loop-slot.invariant type es shows) shows.2 (omega (arith, long))
    (c.in_ok-value_of_entry.ensures _ _ (c.slot.ensures.shows (a_table type es) shows)))

-- a table of these entries
table_is : (L : LaidSchema) (b : Bytes) (t p : ℕ) (os : List (Option Value)) (d : Datum)
    → Lies L b (part_place (table_part t)) p d
    → ((type : ℕ) (es : SlotEntries) → Lies L b (part_place (table_part t)) p (a_table type es) → entries_view os ≡ es)
    → a_table t (entries_view os) ≡ d
table_is L b t p os (a_table type es) lies known = rw (lies.1, known type es lies) refl
table_is L b t p os _ lies known = absurd lies

pub value_of_view-returns : goal.value_of_view-returns
value_of_view-returns t c d shows =
    let table = c.args.table in
    let L = table.layout.now in
    let b = table.bytes.now in
    let fs = slots_of L table.table.0 in
    let seen = rw (c.layout.ensures, c.type_id.ensures) at c.slots_of-slots.ensures.slots in
    let long = slots_long L table.table.0 c.slots_of-slots.result.now seen in
    let os = c.loop-slot.entries.items in
    rw (view-Fields c.type_id-2.result c.loop-slot.entries, c.type_id-2.ensures)
    (table_is L b table.table.0 table.at os d shows (λ type es lies. entries_whole L b os fs
    (named_slots L b table.at 0 fs) es c.loop-slot.slot (c.loop-slot.invariant type es lies) lies.2
    (omega (arith, long))))
