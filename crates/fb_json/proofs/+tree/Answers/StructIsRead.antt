-- The parts of a struct are read.
use Rattle.std.proofs.Common.{◌≡◌, ◌∙◌, ◌++◌, ◌∷◌, ◌≤◌, [], refl, length, map}
use Rattle.std.proofs.Common.{Ok, inr, arith}
use Rattle.std.proofs.lemmas.Result.{err_from_is_err_and}
use Rattle.std.proofs.lemmas.List.{length-map, map_push}
use Rattle.serde_json.specs.View.{members_view}
use Rattle.fb_schema.specs.Seen.{field_seen}
use Rattle.fb_value.specs.View.{view}
use Rattle.fb_json.specs.declared.step.JsonStep.TheVariants.{Field}
use Rattle.fb_json.specs.FaultPaths.{field_spot}
use Rattle.fb_json.specs.FaultPaths.{IsFirstAt, IsFirstIn, ToField}
use Rattle.fb_json.specs.Meant.{look, slot_place, part_meant}
use Rattle.fb_json.specs.SlotMembers.{looked_up}
use Rattle.fb_json.proofs.slots.MemberAtItsSlot.{looked_up_in}
use Rattle.fb_json.proofs.slots.PartsNestLess.{slots_nested}
use Rattle.fb_json.proofs.slots.PartsNestLess.{tree_within}
use Rattle.fb_json.proofs.slots.OneSlotOrFieldMore.{parts_next, parts_ungiven, parts_end}
use Rattle.fb_json.proofs.tree.PathGoesThroughParts.{to_field, field_next}
use Rattle.fb_json.proofs.tree.PathGoesThroughParts.{in_struct}
use Rattle.fb_json.proofs.tree.TrailLeadsToTheFault.{goes, fails_after}
use Rattle.fb_json.proofs.+tree.Goals as goal

pub fields_are_those : goal.structs::struct_of-members_by_slot-requires
fields_are_those t c = inr c.parts_of-fields.ensures.parts

pub members_nest_less : goal.structs::struct_of-parts-requires
members_nest_less t c =
    let are = c.in_ok-members_by_slot.ensures.members in
    let fields = c.parts_of-fields.result.now in
    let less = slots_nested c.members_by_slot.new.found (map field_seen fields)
    (members_view c.args.members.now.entries) are in
    let all = are.all ∙ length-map fields field_seen in
    (omega (arith, less), (c.parts_of-fields.ensures.few, (all, c.requires.none)))

pub trail_through_struct : goal.structs::struct_of-returns-in_err-left-clause-trail
trail_through_struct t c place =
    let ms = members_view c.args.members.now.entries in
    let fields = map field_seen c.parts_of-fields.result.now in
    let are = c.in_ok-members_by_slot.ensures.members in
    let p = err_from_is_err_and c.from_residual-in_err-left.result c.from_residual-in_err-left.ensures.1 in
    rw (p.1, p.2) (λ kept. in_struct c.args.source.layout.now c.args.source.unknown ms c.args.owner place
    c.args.room.levels c.args.room.left fields c.in_err-left.field-0.0 c.args.trail.now c.parts.new.trail
    c.parts_of-fields.ensures.parts c.in_ok-members_by_slot.ensures.known (c.in_err-left.ensures.trail ms are kept))

pub trail_of_struct : goal.structs::struct_of-returns-clause-trail
trail_of_struct t c place =
    c.in_ok-left.ensures.trail (members_view c.args.members.now.entries) c.in_ok-members_by_slot.ensures.members

pub trail_of_refused_value : goal.structs::structure-returns-in_err-left-clause-trail
trail_of_refused_value t c =
    let p = err_from_is_err_and c.from_residual.result c.from_residual.ensures.1 in
    rw (p.1, p.2) (c.in_err-left.ensures.trail c.args.place)

pub trail_of_value : goal.structs::structure-returns-clause-trail
trail_of_value t c = c.in_ok-left.ensures.trail c.args.place

pub part_nests_less : goal.structs::parts-part-requires
part_nests_less t c =
    let less = tree_within c.args.trees.now c.loop-k.k c.get.result c.get.ensures.is in
    (omega (arith, less), tt)

pub refused_part_given : goal.structs::parts-returns-in-Err-clause-gives
refused_part_given t c ms are =
    let L = c.args.source.layout.now in
    let unknown = c.args.source.unknown in
    let seen = look L unknown ms in
    let found = looked_up_in c.args.trees.now c.args.structure.fields.now ms are c.loop-k.k c.index-fields-k.result
    c.loop-k-test.true c.index-fields-k.is c.get.result c.get.ensures.is L unknown in
    fails_after c.in-Err.fault c.push_step.result
    (part_meant (looked_up L unknown c.get.result) c.index-fields-k.result.shape
    (slot_place c.args.structure.owner.0 c.loop-k.k) c.args.room.levels c.loop-k.left) _ c.push_step.ensures.step
    (λ h. (c.loop-k.invariant.read ms are).0 ∙ parts_ungiven L seen c.args.structure.owner.0 c.args.structure.fields.now c.loop-k.k
    c.index-fields-k.result c.loop-k-test.true c.index-fields-k.is (map view c.loop-k.found.items) c.args.room.levels
    c.loop-k.left (slot_place c.args.structure.owner.0 c.loop-k.k) refl _ (rw found h)) c.in-Err.ensures.gives

pub trail_to_refused_part : goal.structs::parts-returns-in-Err-clause-trail
trail_to_refused_part t c ms are =
    let L = c.args.source.layout.now in
    let unknown = c.args.source.unknown in
    let seen = look L unknown ms in
    let found = looked_up_in c.args.trees.now c.args.structure.fields.now ms are c.loop-k.k c.index-fields-k.result
    c.loop-k-test.true c.index-fields-k.is c.get.result c.get.ensures.is L unknown in
    goes c.args.trail.now c.loop-k.trail c.part.new.trail c.push_step.new.self
    (IsFirstAt L unknown (field_spot (seen (field_seen c.index-fields-k.result).name) c.index-fields-k.result.shape
    (slot_place c.args.structure.owner.0 c.loop-k.k) c.args.room.levels c.loop-k.left))
    (IsFirstIn L unknown (ToField seen c.args.structure.owner (map field_seen c.args.structure.fields.now) c.args.room.levels
    c.args.room.left)) (Field c.args.structure.owner c.loop-k.k) c.in-Err.fault c.push_step.result c.loop-k.invariant.trail
    c.push_step.ensures.step (rw found c.in-Err.ensures.trail)
    (λ steps. to_field L unknown seen c.args.structure.owner c.args.structure.fields.now c.loop-k.k c.index-fields-k.result
    c.loop-k-test.true c.index-fields-k.is c.args.room.levels c.args.room.left c.loop-k.left
    (c.loop-k.invariant.read ms are).1 c.in-Err.fault steps)

pub one_part_more : goal.structs::parts-loop-k-preserved
one_part_more t c =
    let L = c.args.source.layout.now in
    let unknown = c.args.source.unknown in
    let e : map view c.push_reserved.new.self.items ≡ map view c.loop-k.found.items ++ view c.in-Ok.part ∷ [] =
    rw c.push_reserved.ensures.items (map_push _ c.loop-k.found.items c.in-Ok.part) in
    record {
      read = λ ms are.
          let seen = look L unknown ms in
          let found = looked_up_in c.args.trees.now c.args.structure.fields.now ms are c.loop-k.k c.index-fields-k.result
          c.loop-k-test.true c.index-fields-k.is c.get.result c.get.ensures.is L unknown in
          let given : part_meant (seen (field_seen c.index-fields-k.result).name) c.index-fields-k.result.shape
          (slot_place c.args.structure.owner.0 c.loop-k.k) c.args.room.levels c.loop-k.left
          ≡ Ok (view c.in-Ok.part, c.in-Ok.rest) = rw found c.in-Ok.ensures.gives in
          let before = c.loop-k.invariant.read ms are in (
            rw e (before.0 ∙ parts_next L seen c.args.structure.owner.0 c.args.structure.fields.now c.loop-k.k
                c.index-fields-k.result c.loop-k-test.true c.index-fields-k.is (map view c.loop-k.found.items)
                c.args.room.levels c.loop-k.left (slot_place c.args.structure.owner.0 c.loop-k.k) refl c.in-Ok.rest
                (view c.in-Ok.part) given),
            field_next L unknown seen c.args.structure.owner c.args.structure.fields.now c.loop-k.k c.index-fields-k.result
                c.loop-k-test.true c.index-fields-k.is c.args.room.levels c.args.room.left c.loop-k.left before.1
                (view c.in-Ok.part) c.in-Ok.rest given,
          );
      trail = c.in-Ok.ensures.trail ∙ c.loop-k.invariant.trail;
      filled = omega (arith, c.push_reserved.ensures.len);
      room = omega (arith, c.push_reserved.ensures.capacity);
    }

pub all_parts_given : goal.structs::parts-returns-clause-gives
all_parts_given t c ms are =
    let L = c.args.source.layout.now in
    let seen = look L c.args.source.unknown ms in
    let past : length c.args.structure.fields.now ≤ c.loop-k.k = omega arith in
    (c.loop-k.invariant.read ms are).0 ∙ parts_end seen c.args.structure.owner.0 c.args.structure.fields.now c.loop-k.k
    (map view c.loop-k.found.items) c.args.room.levels c.loop-k.left past
