mod FaultsOfPartsAreGiven
mod PartsGiveTheWhole
mod StructIsRead
use Rattle.std.proofs.Common.{◌≡◌, ◌∙◌, ◌++◌, ◌∷◌, ◌≤◌, [], refl, sym, ap, length, map}
use Rattle.std.proofs.Common.{Ok, Some, option_map, inl, arith}
use Rattle.std.proofs.lemmas.Result.{err_from_is_err_and}
use Rattle.std.proofs.lemmas.Grind.{common_steps}
use Rattle.std.proofs.lemmas.List.{length-map, map_push}
use Rattle.serde_json.specs.View.{view as tree_view, members_view}
use Rattle.serde_json.proofs.Views.{view-Array}
use Rattle.fb_schema.specs.Seen.{field_seen}
use Rattle.fb_schema.specs.declared.kinds.Kind.TheVariants.{Table}
use Rattle.fb_schema.specs.declared.kinds.Shape.TheVariants.{One}
use Rattle.fb_layout.specs.Laid.{slot_of, member_by_code}
use Rattle.fb_value.specs.Datum.{a_number}
use Rattle.fb_value.specs.View.{view}
use Rattle.fb_json.specs.declared.step.JsonStep.TheVariants.{Slot, Element}
use Rattle.fb_json.specs.FaultPaths.{entry_spot, slot_spot}
use Rattle.fb_json.specs.FaultPaths.{tree_spot, IsFirstAt, IsFirstIn, ToSlot, ToElement}
use Rattle.fb_json.specs.Meant.{look, meant, slot_place, entry_meant}
use Rattle.fb_json.specs.SlotMembers.{looked_up}
use Rattle.fb_json.proofs.slots.MemberAtItsSlot.{looked_up_in}
use Rattle.fb_json.proofs.slots.PartsNestLess.{item_nested, slots_nested}
use Rattle.fb_json.proofs.slots.PartsNestLess.{tree_within}
use Rattle.fb_json.proofs.slots.OneSlotOrFieldMore.{fails_is, fails_by, slots_next, slots_untold}
use Rattle.fb_json.proofs.slots.OneSlotOrFieldMore.{slots_ungiven, slots_end}
use Rattle.fb_json.proofs.slots.OneSlotOrFieldMore.{counted}
use Rattle.fb_json.proofs.slots.SlotsDecideTheTable.{table_fails}
use Rattle.fb_json.proofs.tree.PathGoesThroughParts.{to_slot, to_entry, slot_next, to_element}
use Rattle.fb_json.proofs.tree.PathGoesThroughParts.{element_next, in_vector, too_deep, too_many, unknown_in_table}
use Rattle.fb_json.proofs.tree.PathGoesThroughParts.{full_vector, in_table}
use Rattle.fb_json.proofs.tree.TrailLeadsToTheFault.{here, goes, fails_after, fault_given}
use Rattle.fb_json.proofs.+tree.Answers.FaultsOfPartsAreGiven.{trail_to_refused_number, unknown_member_given}
use Rattle.fb_json.proofs.+tree.Answers.FaultsOfPartsAreGiven.{trail_of_unknown_member, refused_parts_given}
use Rattle.fb_json.proofs.+tree.Answers.FaultsOfPartsAreGiven.{struct_of_parts_given, unknown_member_of_table_given}
use Rattle.fb_json.proofs.+tree.Answers.PartsGiveTheWhole.{object_nests_less, object_given, trail_of_object}
use Rattle.fb_json.proofs.+tree.Answers.PartsGiveTheWhole.{array_nests_less, trail_of_array, refused_element_given}
use Rattle.fb_json.proofs.+tree.Answers.PartsGiveTheWhole.{all_elements_given, refused_vector_given, vector_given}
use Rattle.fb_json.proofs.+tree.Answers.PartsGiveTheWhole.{struct_given, table_given, member_given}
use Rattle.fb_json.proofs.+tree.Answers.StructIsRead.{fields_are_those, members_nest_less, trail_through_struct}
use Rattle.fb_json.proofs.+tree.Answers.StructIsRead.{trail_of_struct, trail_of_refused_value, trail_of_value}
use Rattle.fb_json.proofs.+tree.Answers.StructIsRead.{part_nests_less, refused_part_given, trail_to_refused_part}
use Rattle.fb_json.proofs.+tree.Answers.StructIsRead.{one_part_more, all_parts_given}
use Rattle.fb_json.proofs.+tree.Goals as goal

-- ---- trees

pub tree::items-value-requires : goal.tree::items-value-requires
tree::items-value-requires t c =
    let less = item_nested c.args.elements.now c.loop-i.i c.index-elements-i.result c.loop-i-test.true
    c.index-elements-i.is in
    (omega (arith, less), tt)

pub tree::items-returns-in-Err-clause-trail : goal.tree::items-returns-in-Err-clause-trail
tree::items-returns-in-Err-clause-trail t c =
    let L = c.args.source.layout.now in
    let unknown = c.args.source.unknown in
    goes c.args.trail.now c.loop-i.trail c.value.new.trail c.push_step.new.self
    (IsFirstAt L unknown (tree_spot (tree_view c.index-elements-i.result) (One c.args.kind) c.args.place
    c.args.room.levels c.loop-i.left))
    (IsFirstIn L unknown (ToElement L unknown c.args.kind c.args.place (map tree_view c.args.elements.now)
    c.args.room.levels c.args.room.left)) (Element c.loop-i.i) c.in-Err.fault c.push_step.result c.loop-i.invariant.trail
    c.push_step.ensures.step c.in-Err.ensures.trail
    (λ steps. to_element L unknown c.args.kind c.args.place c.args.elements.now c.loop-i.i c.index-elements-i.result
    c.loop-i-test.true c.index-elements-i.is c.args.room.levels c.args.room.left c.loop-i.left
    c.loop-i.invariant.before c.in-Err.fault steps)

pub tree::items-loop-i-preserved : goal.tree::items-loop-i-preserved
tree::items-loop-i-preserved t c =
    let L = c.args.source.layout.now in
    let unknown = c.args.source.unknown in
    record {
      gives = grind (arith, common_steps);
      before = element_next L unknown c.args.kind c.args.place c.args.elements.now c.loop-i.i c.index-elements-i.result
          c.loop-i-test.true c.index-elements-i.is c.args.room.levels c.args.room.left c.loop-i.left
          c.loop-i.invariant.before (view c.in-Ok.item) c.in-Ok.rest c.in-Ok.ensures.gives;
      trail = c.in-Ok.ensures.trail ∙ c.loop-i.invariant.trail;
      filled = omega (arith, c.push_reserved.ensures.len);
      room = omega (arith, c.push_reserved.ensures.capacity);
    }

pub tree::value-returns-in-Array-clause-gives : goal.tree::value-returns-in-Array-clause-gives
tree::value-returns-in-Array-clause-gives t c =
    rw (c.in-Array.is, view-Array c.in-Array.elements, counted c.in-Array.elements.items)
    (rw c.deref.ensures.value at c.vector.ensures.gives)

pub tree::vector-returns-then-elements-room-clause-trail : goal.tree::vector-returns-then-elements-room-clause-trail
tree::vector-returns-then-elements-room-clause-trail t c =
    rw c.in-Many.is (λ kept. full_vector c.args.source.layout.now c.args.source.unknown c.in-Many.kind c.args.place
    c.args.elements.now c.args.room.levels c.args.room.left c.args.trail.now c.if-elements-room.true)

pub tree::vector-returns-in_err-items-clause-trail : goal.tree::vector-returns-in_err-items-clause-trail
tree::vector-returns-in_err-items-clause-trail t c =
    let p = err_from_is_err_and c.from_residual.result c.from_residual.ensures.1 in
    rw (p.1, p.2, c.in-Many.is) (λ kept. in_vector c.args.source.layout.now c.args.source.unknown c.in-Many.kind
    c.args.place c.args.elements.now c.args.room.levels c.args.room.left c.in_err-items.field-0.0 c.args.trail.now
    c.items.new.trail (omega arith) (c.in_err-items.ensures.trail kept))

-- ---- tables

pub tables::table-members_by_slot-requires : goal.tables::table-members_by_slot-requires
tables::table-members_by_slot-requires t c = inl c.slots_of-slots.ensures.slots

pub tables::table-entries-requires : goal.tables::table-entries-requires
tables::table-entries-requires t c =
    let are = c.in_ok-members_by_slot.ensures.members in
    let slots = c.slots_of-slots.result.now in
    let less = slots_nested c.members_by_slot.new.found (map field_seen slots)
    (members_view c.args.members.now.entries) are in
    (omega (arith, less), (c.slots_of-slots.ensures.few, are.all ∙ length-map slots field_seen))

pub tables::table-returns-then-room-eq0-clause-trail : goal.tables::table-returns-then-room-eq0-clause-trail
tables::table-returns-then-room-eq0-clause-trail t c =
    λ kept. rw c.if-room-eq0.true (too_deep c.args.source.layout.now c.args.source.unknown
    (members_view c.args.members.now.entries) c.args.owner c.args.place c.args.room.left c.args.trail.now)

pub tables::table-returns-then-room-eq0-2-clause-trail : goal.tables::table-returns-then-room-eq0-2-clause-trail
tables::table-returns-then-room-eq0-2-clause-trail t c =
    λ kept. rw c.if-room-eq0-2.true (too_many c.args.source.layout.now c.args.source.unknown
    (members_view c.args.members.now.entries) c.args.owner c.args.place c.args.room.levels c.args.trail.now
    (omega arith))

pub tables::table-returns-in_err-members_by_slot-clause-trail
    : goal.tables::table-returns-in_err-members_by_slot-clause-trail
tables::table-returns-in_err-members_by_slot-clause-trail t c =
    let p = err_from_is_err_and c.from_residual.result c.from_residual.ensures.1 in
    rw (p.1, p.2) (λ kept. unknown_in_table c.args.source.layout.now c.args.source.unknown
    (members_view c.args.members.now.entries) c.args.owner c.args.place c.args.room.levels c.args.room.left
    (omega arith) (omega arith) c.in_err-members_by_slot.field-0.0 c.args.trail.now
    (fault_given c.in_err-members_by_slot.field-0.0 _ c.in_err-members_by_slot.ensures.known kept))

pub tables::table-returns-clause-trail : goal.tables::table-returns-clause-trail
tables::table-returns-clause-trail t c =
    c.in_ok-entries.ensures.trail (members_view c.args.members.now.entries) c.in_ok-members_by_slot.ensures.members

pub tables::table-returns-in_err-entries-clause-gives : goal.tables::table-returns-in_err-entries-clause-gives
tables::table-returns-in_err-entries-clause-gives t c =
    let L = c.args.source.layout.now in
    let unknown = c.args.source.unknown in
    let ms = members_view c.args.members.now.entries in
    let fault = c.in_err-entries.field-0.0 in
    let p = err_from_is_err_and c.from_residual-in_err-entries.result c.from_residual-in_err-entries.ensures.1 in
    let part = c.in_err-entries.ensures.gives ms c.in_ok-members_by_slot.ensures.members in
    rw (p.1, p.2) (fails_by fault _ _ (λ h. table_fails L unknown ms (look L unknown ms) c.args.owner.0 c.args.place
    c.args.room.levels c.args.room.left fault (omega arith) (omega arith) c.in_ok-members_by_slot.ensures.known
    (rw c.slots_of-slots.ensures.slots at h)) part)

pub tables::table-returns-in_err-entries-clause-trail : goal.tables::table-returns-in_err-entries-clause-trail
tables::table-returns-in_err-entries-clause-trail t c =
    let ms = members_view c.args.members.now.entries in
    let slots = map field_seen c.slots_of-slots.result.now in
    let are = c.in_ok-members_by_slot.ensures.members in
    let p = err_from_is_err_and c.from_residual-in_err-entries.result c.from_residual-in_err-entries.ensures.1 in
    rw (p.1, p.2) (λ kept. in_table c.args.source.layout.now c.args.source.unknown ms c.args.owner c.args.place
    c.args.room.levels c.args.room.left (omega arith) (omega arith) slots c.in_err-entries.field-0.0 c.args.trail.now
    c.entries.new.trail c.slots_of-slots.ensures.slots c.in_ok-members_by_slot.ensures.known
    (c.in_err-entries.ensures.trail ms are kept))

pub tables::entries-entry-requires : goal.tables::entries-entry-requires
tables::entries-entry-requires t c =
    let less = tree_within c.args.trees.now c.loop-k.k c.get-tree.result c.get-tree.ensures.is in
    (omega (arith, less), tt)

pub tables::entries-returns-in-Err-clause-gives : goal.tables::entries-returns-in-Err-clause-gives
tables::entries-returns-in-Err-clause-gives t c ms are =
    let L = c.args.source.layout.now in
    let unknown = c.args.source.unknown in
    let seen = look L unknown ms in
    let found = looked_up_in c.args.trees.now c.args.slots.now ms are c.loop-k.k c.index-slots-k.result
    c.loop-k-test.true c.index-slots-k.is c.get-tree.result c.get-tree.ensures.is L unknown in
    let told = sym (c.in-Err.ensures seen found) in
    let whole = (c.loop-k.invariant.read ms are).0 ∙ slots_untold L seen c.args.owner.0 c.args.slots.now c.loop-k.k
    c.index-slots-k.result c.loop-k-test.true c.index-slots-k.is (map (option_map view) c.loop-k.found.items)
    c.loop-k.code c.args.room.levels c.loop-k.left c.in-Err.fault told in
    fails_after c.in-Err.fault c.push_step.result _ _ c.push_step.ensures.step (λ same. same)
    (fails_is c.in-Err.fault _ whole)

pub tables::entries-returns-in-Err-clause-trail : goal.tables::entries-returns-in-Err-clause-trail
tables::entries-returns-in-Err-clause-trail t c ms are =
    let L = c.args.source.layout.now in
    let unknown = c.args.source.unknown in
    let seen = look L unknown ms in
    let found = looked_up_in c.args.trees.now c.args.slots.now ms are c.loop-k.k c.index-slots-k.result
    c.loop-k-test.true c.index-slots-k.is c.get-tree.result c.get-tree.ensures.is L unknown in
    let told = sym (c.in-Err.ensures seen found) in
    goes c.args.trail.now c.loop-k.trail c.loop-k.trail c.push_step.new.self
    (IsFirstAt L unknown (slot_spot L seen (field_seen c.index-slots-k.result) (slot_place c.args.owner.0 c.loop-k.k)
    c.loop-k.code c.args.room.levels c.loop-k.left))
    (IsFirstIn L unknown (ToSlot L seen c.args.owner (map field_seen c.args.slots.now) c.args.room.levels
    c.args.room.left)) (Slot c.args.owner c.loop-k.k) c.in-Err.fault c.push_step.result c.loop-k.invariant.trail
    c.push_step.ensures.step (λ kept. here L unknown (slot_spot L seen (field_seen c.index-slots-k.result)
    (slot_place c.args.owner.0 c.loop-k.k) c.loop-k.code c.args.room.levels c.loop-k.left) c.in-Err.fault
    c.loop-k.trail (rw told refl))
    (λ steps. to_slot L unknown seen c.args.owner c.args.slots.now c.loop-k.k c.index-slots-k.result
    c.loop-k-test.true c.index-slots-k.is c.args.room.levels c.args.room.left c.loop-k.code c.loop-k.left
    (c.loop-k.invariant.read ms are).1 steps c.in-Err.fault)

pub tables::entries-returns-in-Err-entry-clause-gives : goal.tables::entries-returns-in-Err-entry-clause-gives
tables::entries-returns-in-Err-entry-clause-gives t c ms are =
    let L = c.args.source.layout.now in
    let unknown = c.args.source.unknown in
    let seen = look L unknown ms in
    let found = looked_up_in c.args.trees.now c.args.slots.now ms are c.loop-k.k c.index-slots-k.result
    c.loop-k-test.true c.index-slots-k.is c.get-tree.result c.get-tree.ensures.is L unknown in
    let f = field_seen c.index-slots-k.result in
    let told = sym (c.in-Ok.ensures seen found) in
    fails_after c.in-Err-entry.fault c.push_step-in-Err-entry.result
    (entry_meant L seen f (slot_place c.args.owner.0 c.loop-k.k) c.in-Ok.told c.args.room.levels c.loop-k.left) _
    c.push_step-in-Err-entry.ensures.step
    (λ h. (c.loop-k.invariant.read ms are).0 ∙ slots_ungiven L seen c.args.owner.0 c.args.slots.now c.loop-k.k
    c.index-slots-k.result c.loop-k-test.true c.index-slots-k.is (map (option_map view) c.loop-k.found.items)
    c.loop-k.code c.args.room.levels c.loop-k.left c.in-Ok.told c.in-Err-entry.fault told h)
    (c.in-Err-entry.ensures.gives seen found)

pub tables::entries-returns-in-Err-entry-clause-trail : goal.tables::entries-returns-in-Err-entry-clause-trail
tables::entries-returns-in-Err-entry-clause-trail t c ms are =
    let L = c.args.source.layout.now in
    let unknown = c.args.source.unknown in
    let seen = look L unknown ms in
    let found = looked_up_in c.args.trees.now c.args.slots.now ms are c.loop-k.k c.index-slots-k.result
    c.loop-k-test.true c.index-slots-k.is c.get-tree.result c.get-tree.ensures.is L unknown in
    let f = field_seen c.index-slots-k.result in
    let told = sym (c.in-Ok.ensures seen found) in
    goes c.args.trail.now c.loop-k.trail c.entry.new.trail c.push_step-in-Err-entry.new.self
    (IsFirstAt L unknown (entry_spot L seen f (slot_place c.args.owner.0 c.loop-k.k) c.in-Ok.told c.args.room.levels
    c.loop-k.left))
    (IsFirstIn L unknown (ToSlot L seen c.args.owner (map field_seen c.args.slots.now) c.args.room.levels
    c.args.room.left)) (Slot c.args.owner c.loop-k.k) c.in-Err-entry.fault c.push_step-in-Err-entry.result
    c.loop-k.invariant.trail c.push_step-in-Err-entry.ensures.step (c.in-Err-entry.ensures.trail seen found)
    (λ steps. to_entry L unknown seen c.args.owner c.args.slots.now c.loop-k.k c.index-slots-k.result
    c.loop-k-test.true c.index-slots-k.is c.args.room.levels c.args.room.left c.loop-k.code c.loop-k.left
    (c.loop-k.invariant.read ms are).1 c.in-Ok.told told steps c.in-Err-entry.fault)

pub tables::entries-loop-k-preserved-then-is_absent : goal.tables::entries-loop-k-preserved-then-is_absent
tables::entries-loop-k-preserved-then-is_absent t c =
    let L = c.args.source.layout.now in
    let unknown = c.args.source.unknown in
    let f = field_seen c.index-slots-k.result in
    let place = slot_place c.args.owner.0 c.loop-k.k in
    let default = option_map a_number (slot_of L.schema f).if_absent in
    let front = map (option_map view) c.loop-k.found.items in
    let e : map (option_map view) c.push_reserved.new.self.items ≡ front ++ default ∷ [] =
    rw c.push_reserved.ensures.items (map_push (option_map view) c.loop-k.found.items c.default_of.result
    ∙ ap (λ v. front ++ v ∷ []) (c.default_of.ensures L.schema)) in
    record {
      read = λ ms are.
          let seen = look L unknown ms in
          let found = looked_up_in c.args.trees.now c.args.slots.now ms are c.loop-k.k c.index-slots-k.result
          c.loop-k-test.true c.index-slots-k.is c.get-tree.result c.get-tree.ensures.is L unknown in
          let none = found ∙ ap (looked_up L unknown) (c.is_absent.ensures.none c.if-is_absent.true) in
          let told = c.is_absent.ensures.code L.schema seen place c.loop-k.code c.if-is_absent.true in
          let given = c.is_absent.ensures.entry L seen place c.loop-k.code c.args.room.levels c.loop-k.left
          c.if-is_absent.true none in
          let before = c.loop-k.invariant.read ms are in (
            rw e (before.0 ∙ slots_next L seen c.args.owner.0 c.args.slots.now c.loop-k.k c.index-slots-k.result
                c.loop-k-test.true c.index-slots-k.is front c.loop-k.code c.args.room.levels c.loop-k.left c.loop-k.code
                c.loop-k.left default told given),
            slot_next L unknown seen c.args.owner c.args.slots.now c.loop-k.k c.index-slots-k.result c.loop-k-test.true
                c.index-slots-k.is c.args.room.levels c.args.room.left c.loop-k.code c.loop-k.left before.1
                c.loop-k.code told default c.loop-k.left given,
          );
      trail = c.loop-k.invariant.trail;
      filled = omega (arith, c.push_reserved.ensures.len);
      room = omega (arith, c.push_reserved.ensures.capacity);
    }

pub tables::entries-loop-k-preserved : goal.tables::entries-loop-k-preserved
tables::entries-loop-k-preserved t c =
    let L = c.args.source.layout.now in
    let unknown = c.args.source.unknown in
    let front = map (option_map view) c.loop-k.found.items in
    let entry = option_map view c.in-Ok-entry.entry in
    let e : map (option_map view) c.push_reserved-in-Ok-entry.new.self.items ≡ front ++ entry ∷ [] =
    rw c.push_reserved-in-Ok-entry.ensures.items (map_push _ c.loop-k.found.items c.in-Ok-entry.entry) in
    record {
      read = λ ms are.
          let seen = look L unknown ms in
          let found = looked_up_in c.args.trees.now c.args.slots.now ms are c.loop-k.k c.index-slots-k.result
          c.loop-k-test.true c.index-slots-k.is c.get-tree.result c.get-tree.ensures.is L unknown in
          let told = sym (c.in-Ok.ensures seen found) in
          let given = c.in-Ok-entry.ensures.gives seen found in
          let before = c.loop-k.invariant.read ms are in (
            rw e (before.0 ∙ slots_next L seen c.args.owner.0 c.args.slots.now c.loop-k.k c.index-slots-k.result
                c.loop-k-test.true c.index-slots-k.is front c.loop-k.code c.args.room.levels c.loop-k.left c.in-Ok.told
                c.in-Ok-entry.rest entry told given),
            slot_next L unknown seen c.args.owner c.args.slots.now c.loop-k.k c.index-slots-k.result c.loop-k-test.true
                c.index-slots-k.is c.args.room.levels c.args.room.left c.loop-k.code c.loop-k.left before.1
                c.in-Ok.told told entry c.in-Ok-entry.rest given,
          );
      trail = c.in-Ok-entry.ensures.trail (λ name. looked_up L unknown c.get-tree.result) refl
          ∙ c.loop-k.invariant.trail;
      filled = omega (arith, c.push_reserved-in-Ok-entry.ensures.len);
      room = omega (arith, c.push_reserved-in-Ok-entry.ensures.capacity);
    }

pub tables::entries-returns-clause-gives : goal.tables::entries-returns-clause-gives
tables::entries-returns-clause-gives t c ms are =
    let L = c.args.source.layout.now in
    let seen = look L c.args.source.unknown ms in
    let past : length c.args.slots.now ≤ c.loop-k.k = omega arith in
    (c.loop-k.invariant.read ms are).0 ∙ slots_end L seen c.args.owner.0 c.args.slots.now c.loop-k.k
    (map (option_map view) c.loop-k.found.items) c.loop-k.code c.args.room.levels c.loop-k.left past

pub tables::table-returns-in_err-members_by_slot-clause-gives : goal.tables::table-returns-in_err-members_by_slot-clause-gives
tables::table-returns-in_err-members_by_slot-clause-gives = unknown_member_of_table_given

-- ---- entries

pub entries::member-returns-in_err-value-clause-gives : goal.entries::member-returns-in_err-value-clause-gives
entries::member-returns-in_err-value-clause-gives t c =
    let L = c.args.source.layout.now in
    let m = meant L c.args.source.unknown (tree_view c.args.tree.now) in
    let p = err_from_is_err_and c.from_residual.result c.from_residual.ensures.1 in
    let is : Some c.in-Some.table.0 ≡ member_by_code L c.args.union.0 c.args.slot.code =
    rw c.schema.ensures.schema at c.in-Some.ensures in
    rw (p.1, p.2) (rw (← is) (fails_by c.in_err-value.field-0.0
    (m (One (Table c.in-Some.table)) c.args.slot.place c.args.room.levels
    c.args.room.left) _ (λ h. rw h refl) c.in_err-value.ensures.gives))

-- ---- structs

pub structs::part-returns-in_err-number-clause-trail : goal.structs::part-returns-in_err-number-clause-trail
structs::part-returns-in_err-number-clause-trail = trail_to_refused_number

pub structs::struct_of-members_by_slot-requires : goal.structs::struct_of-members_by_slot-requires
structs::struct_of-members_by_slot-requires = fields_are_those

pub structs::struct_of-returns-in_err-members_by_slot-clause-gives : goal.structs::struct_of-returns-in_err-members_by_slot-clause-gives
structs::struct_of-returns-in_err-members_by_slot-clause-gives = unknown_member_given

pub structs::struct_of-returns-in_err-members_by_slot-clause-trail : goal.structs::struct_of-returns-in_err-members_by_slot-clause-trail
structs::struct_of-returns-in_err-members_by_slot-clause-trail = trail_of_unknown_member

pub structs::struct_of-parts-requires : goal.structs::struct_of-parts-requires
structs::struct_of-parts-requires = members_nest_less

pub structs::struct_of-returns-in_err-left-clause-gives : goal.structs::struct_of-returns-in_err-left-clause-gives
structs::struct_of-returns-in_err-left-clause-gives = refused_parts_given

pub structs::struct_of-returns-in_err-left-clause-trail : goal.structs::struct_of-returns-in_err-left-clause-trail
structs::struct_of-returns-in_err-left-clause-trail = trail_through_struct

pub structs::struct_of-returns-clause-gives : goal.structs::struct_of-returns-clause-gives
structs::struct_of-returns-clause-gives = struct_of_parts_given

pub structs::struct_of-returns-clause-trail : goal.structs::struct_of-returns-clause-trail
structs::struct_of-returns-clause-trail = trail_of_struct

pub structs::structure-returns-in_err-left-clause-trail : goal.structs::structure-returns-in_err-left-clause-trail
structs::structure-returns-in_err-left-clause-trail = trail_of_refused_value

pub structs::structure-returns-clause-trail : goal.structs::structure-returns-clause-trail
structs::structure-returns-clause-trail = trail_of_value

pub structs::parts-part-requires : goal.structs::parts-part-requires
structs::parts-part-requires = part_nests_less

pub structs::parts-returns-in-Err-clause-gives : goal.structs::parts-returns-in-Err-clause-gives
structs::parts-returns-in-Err-clause-gives = refused_part_given

pub structs::parts-returns-in-Err-clause-trail : goal.structs::parts-returns-in-Err-clause-trail
structs::parts-returns-in-Err-clause-trail = trail_to_refused_part

pub structs::parts-loop-k-preserved : goal.structs::parts-loop-k-preserved
structs::parts-loop-k-preserved = one_part_more

pub structs::parts-returns-clause-gives : goal.structs::parts-returns-clause-gives
structs::parts-returns-clause-gives = all_parts_given

-- ---- wholes

pub tree::value-object-requires : goal.tree::value-object-requires
tree::value-object-requires = object_nests_less

pub tree::value-returns-in-Object-clause-gives : goal.tree::value-returns-in-Object-clause-gives
tree::value-returns-in-Object-clause-gives = object_given

pub tree::value-returns-in-Object-clause-trail : goal.tree::value-returns-in-Object-clause-trail
tree::value-returns-in-Object-clause-trail = trail_of_object

pub tree::value-vector-requires : goal.tree::value-vector-requires
tree::value-vector-requires = array_nests_less

pub tree::value-returns-in-Array-clause-trail : goal.tree::value-returns-in-Array-clause-trail
tree::value-returns-in-Array-clause-trail = trail_of_array

pub tree::items-returns-in-Err-clause-gives : goal.tree::items-returns-in-Err-clause-gives
tree::items-returns-in-Err-clause-gives = refused_element_given

pub tree::items-returns-clause-gives : goal.tree::items-returns-clause-gives
tree::items-returns-clause-gives = all_elements_given

pub tree::vector-returns-in_err-items-clause-gives : goal.tree::vector-returns-in_err-items-clause-gives
tree::vector-returns-in_err-items-clause-gives = refused_vector_given

pub tree::vector-returns-clause-gives : goal.tree::vector-returns-clause-gives
tree::vector-returns-clause-gives = vector_given

pub structs::structure-returns-clause-gives : goal.structs::structure-returns-clause-gives
structs::structure-returns-clause-gives = struct_given

pub tables::table-returns-clause-gives : goal.tables::table-returns-clause-gives
tables::table-returns-clause-gives = table_given

pub entries::member-returns-clause-gives : goal.entries::member-returns-clause-gives
entries::member-returns-clause-gives = member_given
