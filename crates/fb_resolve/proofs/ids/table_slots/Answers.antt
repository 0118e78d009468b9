use Rattle.std.proofs.Common.{arith, rules, ◌≡◌, map}
use Rattle.std.proofs.lemmas.List.Sorted.{IsNonDecreasingBy-from_sort_by_key}
use Rattle.std.proofs.lemmas.Grind.{common_steps}
use Rattle.fb_schema.specs.Seen.{field_seen}
use Rattle.fb_resolve.specs.Ids.{slots_by_id}
use Rattle.fb_resolve.proofs.InOrder.{placed_by_id}
use Rattle.fb_resolve.proofs.ids.table_slots.Goals as goal

pub returns-in_ok-sort_by_key-in-ById : goal.returns-in_ok-sort_by_key-in-ById
returns-in_ok-sort_by_key-in-ById c =
    let fields = c.args.table.fields in
    let slots = c.loop-field.slots.items in
    let read : map field_seen slots ≡ slots_by_id fields = grind (arith, common_steps, c.loop-field.invariant) in
    let up = IsNonDecreasingBy-from_sort_by_key (λ s. s.slot) _ c.in_ok-sort_by_key-in-ById.ensures.sorted
    (λ a r q k. search rules) in
    placed_by_id fields slots c.sort_by_key.new.self.items
    (grind rules) c.requires read c.sort_by_key.ensures.permutation up

pub push_slots-requires : goal.push_slots-requires
push_slots-requires c = grind (arith, c.slot_by_id.ensures.room)

pub loop-field-preserved : goal.loop-field-preserved
loop-field-preserved c = grind (arith, common_steps)

pub loop-field-init : goal.loop-field-init
loop-field-init c = search rules
