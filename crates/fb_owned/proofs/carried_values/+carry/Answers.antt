use Rattle.std.proofs.Common.{◌≡◌, ℕ, ◌<◌, ◌+◌, List, [], ◌∷◌, ◌++◌, take, get_or}
use Rattle.std.proofs.Common.{refl, ap, sym, ◌∙◌, arith, length, map, option_map}
use Rattle.std.proofs.lemmas.Grind.{common_steps}
use Rattle.std.proofs.lemmas.Option.{slice_get_read}
use Rattle.fb_schema.proofs.Got.{got}
use Rattle.fb_layout.specs.Laid.{LaidSchema, slot_of, slots_of}
use Rattle.fb_value.specs.Datum.{a_table, a_vector, a_member}
use Rattle.fb_value.specs.declared.values.Value.{Value}
use Rattle.fb_value.specs.View.{view, entries_view}
use Rattle.fb_value.proofs.types.EachVariantHasItsView.{view-Fields, view-Items, view-Member}
use Rattle.fb_conform.specs.Carry.{carry, carry_slots}
use Rattle.fb_owned.proofs.carried_values.EntriesAreCarriedInOrder.{one_carried, one_default, all_done, all_parts}
use Rattle.fb_owned.proofs.carried_values.+carry.Goals as goal
use Rattle.fb_owned.proofs.carried_values.+carry.Goals.{carry_entries-in-Some+in_ok-entry-in-Some}
use Rattle.fb_owned.proofs.carried_values.+carry.Goals.{carry_entries-in-None}

pub carry_entries-returns : goal.carry_entries-returns
carry_entries-returns t c =
    all_done c.args.versions.before.now c.args.versions.after.now c.args.slots.now c.args.entries.now c.loop-i.i
    c.loop-i.carried.items (grind (arith, c.loop-i-test.false)) c.loop-i.invariant

pub carry_parts-returns : goal.carry_parts-returns
carry_parts-returns t c =
    all_parts c.args.versions.before.now c.args.versions.after.now c.args.parts.now c.loop-part.carried.items
    c.loop-part.part-index (grind (arith, c.loop-part-test.false))
    c.loop-part.invariant

pub carry_entries-loop-i-preserved : goal.carry_entries-loop-i-preserved
carry_entries-loop-i-preserved t c =
    let A = c.args.versions.before.now in
    let B = c.args.versions.after.now in
    let slots = c.args.slots.now in
    let es = c.args.entries.now in
    let i = c.loop-i.i in
    let slot = slice_get_read slots (length slots) i c.index-slots-i.result refl c.loop-i-test.true
    c.index-slots-i.is in
    let there = got es i c.get.result c.get.ensures.lookup.0 c.get.ensures.lookup.1 in
    rw c.in_ok-push.ensures.items (elim c.match-get.branch [
      | carry_entries-in-Some+in_ok-entry-in-Some w ↦ one_carried A B slots es i c.index-slots-i.result
          w.in-Some.entry.now c.match-get.entry c.loop-i.carried.items slot
          (sym there ∙ ap (option_map (λ x. x.now)) w.in-Some.is)
          (ap (option_map view) w.entry-is ∙ w.in_ok-entry-in-Some.ensures) c.loop-i.invariant
      | carry_entries-in-None w ↦ one_default A B slots es i c.index-slots-i.result c.match-get.entry
          c.loop-i.carried.items slot (sym there ∙ ap (option_map (λ x. x.now)) w.in-None.is)
          (ap (option_map view) w.entry-is ∙ w.default_entry-entry.ensures B.schema) c.loop-i.invariant
    ])

pub carry_in-returns-in_ok-carry_entries-in-Fields : goal.carry_in-returns-in_ok-carry_entries-in-Fields
carry_in-returns-in_ok-carry_entries-in-Fields t c =
    let A = c.args.versions.before.now in
    let B = c.args.versions.after.now in
    let id = c.in-Fields.type_id in
    let entries = c.in-Fields.entries in
    rw (
      c.in-Fields.is,
      view-Fields id entries,
      view-Fields c.new_number-new_id.result c.in_ok-carry_entries-in-Fields.field-0,
    )
    (ap (a_table c.new_number-new_id.result.0)
    (rw c.deref-in-Fields.ensures.value at c.in_ok-carry_entries-in-Fields.ensures
    ∙ ap (λ fs. carry_slots A B (map (slot_of B.schema) fs) (entries_view entries.items))
    c.slots_of-slots.ensures.slots)
    ∙ ap (λ u. a_table u (carry_slots A B (slots_of B u) (entries_view entries.items))) c.new_number-new_id.ensures)

-- one part more is carried
part_more : (A B : LaidSchema) (parts carried more : List Value) (i : ℕ) (part out : Value) → i < length parts
    → part ≡ get_or parts i part → view out ≡ carry A B (view part) → more ≡ carried ++ out ∷ []
    → map view carried ≡ map (λ d. carry A B d) (map view (take i parts))
    → map view more ≡ map (λ d. carry A B d) (map view (take (i + 1) parts))
part_more A B parts carried more i part out within at is grown so_far = grind (arith, common_steps)

pub carry_parts-loop-part-preserved : goal.carry_parts-loop-part-preserved
carry_parts-loop-part-preserved t c =
    part_more c.args.versions.before.now c.args.versions.after.now c.args.parts.now c.loop-part.carried.items _
    c.loop-part.part-index c.part-item.result c.in_ok-carry_in.field-0 c.loop-part-test.true c.part-item.is
    c.in_ok-carry_in.ensures c.in_ok-push.ensures.items c.loop-part.invariant

pub carry_in-returns-in_ok-carry_parts-in-Items : goal.carry_in-returns-in_ok-carry_parts-in-Items
carry_in-returns-in_ok-carry_parts-in-Items t c = rw (
  c.in-Items.is,
  view-Items c.in-Items.items,
  view-Items c.in_ok-carry_parts-in-Items.field-0,
)
    (ap a_vector (rw c.deref.ensures.value at c.in_ok-carry_parts-in-Items.ensures))

pub carry_in-returns-in_ok-new-in-Member : goal.carry_in-returns-in_ok-new-in-Member
carry_in-returns-in_ok-new-in-Member t c = rw (
  c.in-Member.is,
  view-Member c.in-Member.code c.in-Member.member,
  view-Member c.in-Member.code c.in_ok-new-in-Member.field-0,
)
    (ap (a_member c.in-Member.code)
    (ap view c.in_ok-new-in-Member.ensures.ok
    ∙ (rw c.deref-in-Member.ensures at c.in_ok-carried-in-Member.ensures)))
