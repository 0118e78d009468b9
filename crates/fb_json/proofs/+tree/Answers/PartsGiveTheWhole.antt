-- What a table, a struct, a vector or a union's member gives is what its parts give.
use Rattle.std.proofs.Common.{◌≡◌, ◌∙◌, suc, length, map, option_map, Some, refl, arith}
use Rattle.std.proofs.lemmas.List.{drop_all}
use Rattle.std.proofs.lemmas.Result.{err_from_is_err_and}
use Rattle.serde_json.specs.View.{view as tree_view, items_view, members_view}
use Rattle.serde_json.proofs.Views.{view-Array, view-Object}
use Rattle.fb_schema.specs.declared.kinds.Shape.TheVariants.{One}
use Rattle.fb_layout.specs.Laid.{member_by_code}
use Rattle.fb_value.specs.View.{view}
use Rattle.fb_value.proofs.types.EachVariantHasItsView.{view-Items, view-Fixed, view-Fields, view-Member}
use Rattle.fb_json.specs.Meant.{look, meant, items_meant}
use Rattle.fb_json.proofs.slots.PartsNestLess.{nested, items_nested, members_nested}
use Rattle.fb_json.proofs.slots.OneSlotOrFieldMore.{fails_by, items_end, element_ungiven}
use Rattle.fb_json.proofs.slots.SlotsDecideTheTable.{table_gives, vector_gives, vector_fails}
use Rattle.fb_json.proofs.tree.TrailLeadsToTheFault.{fails_after}
use Rattle.fb_json.proofs.+tree.Goals as goal

pub object_nests_less : goal.tree::value-object-requires
object_nests_less t c =
    let nests : nested (tree_view c.args.tree.now) ≡ suc (members_nested (members_view c.in-Object.members.entries)) =
    rw (c.in-Object.is, view-Object c.in-Object.members) refl in
    (omega (arith, nests), tt)

pub object_given : goal.tree::value-returns-in-Object-clause-gives
object_given t c =
    rw (c.in-Object.is, view-Object c.in-Object.members) c.object.ensures.gives

pub trail_of_object : goal.tree::value-returns-in-Object-clause-trail
trail_of_object t c =
    rw (c.in-Object.is, view-Object c.in-Object.members) c.object.ensures.trail

pub array_nests_less : goal.tree::value-vector-requires
array_nests_less t c =
    let nests : nested (tree_view c.args.tree.now) ≡ suc (items_nested (items_view c.deref.result.now)) =
    rw (c.in-Array.is, view-Array c.in-Array.elements, c.deref.ensures.value) refl in
    (omega (arith, nests), tt)

pub trail_of_array : goal.tree::value-returns-in-Array-clause-trail
trail_of_array t c =
    rw (c.in-Array.is, view-Array c.in-Array.elements) (rw c.deref.ensures.value at c.vector.ensures.trail)

pub refused_element_given : goal.tree::items-returns-in-Err-clause-gives
refused_element_given t c =
    let L = c.args.source.layout.now in
    let unknown = c.args.source.unknown in
    fails_after c.in-Err.fault c.push_step.result (meant L unknown (tree_view c.index-elements-i.result)
    (One c.args.kind) c.args.place c.args.room.levels c.loop-i.left)
    (items_meant L unknown (items_view c.args.elements.now) c.args.kind c.args.place c.args.room.levels
    c.args.room.left) c.push_step.ensures.step (λ h. c.loop-i.invariant.gives ∙ element_ungiven L unknown c.args.kind
    c.args.place c.args.room.levels c.loop-i.left (map view c.loop-i.found.items) c.args.elements.now c.loop-i.i
    c.index-elements-i.result c.loop-i-test.true c.index-elements-i.is c.in-Err.fault h) c.in-Err.ensures.gives

pub all_elements_given : goal.tree::items-returns-clause-gives
all_elements_given t c =
    let none = drop_all c.loop-i.i c.args.elements.now c.loop-i-test.false in
    c.loop-i.invariant.gives ∙ rw none (items_end c.args.source.layout.now c.args.source.unknown c.args.kind
    c.args.place c.args.room.levels c.loop-i.left (map view c.loop-i.found.items))

pub refused_vector_given : goal.tree::vector-returns-in_err-items-clause-gives
refused_vector_given t c =
    let L = c.args.source.layout.now in
    let items = items_meant L c.args.source.unknown (items_view c.args.elements.now) in
    let fault = c.in_err-items.field-0.0 in
    let p = err_from_is_err_and c.from_residual.result c.from_residual.ensures.1 in
    rw (p.1, p.2, c.in-Many.is) (fails_by fault _ _ (vector_fails items (length c.args.elements.now) c.in-Many.kind
    c.args.place c.args.room.levels c.args.room.left fault (omega arith)) c.in_err-items.ensures.gives)

pub vector_given : goal.tree::vector-returns-clause-gives
vector_given t c =
    let L = c.args.source.layout.now in
    rw (c.in-Many.is, view-Items c.in_ok-items.items) (vector_gives (items_meant L c.args.source.unknown
    (items_view c.args.elements.now)) (length c.args.elements.now) c.in-Many.kind c.args.place c.args.room.levels
    c.args.room.left (map view c.in_ok-items.items.items) c.in_ok-items.left (omega arith) c.in_ok-items.ensures.gives)

pub struct_given : goal.structs::structure-returns-clause-gives
struct_given t c =
    rw (view-Fixed c.struct_of.new.found) c.in_ok-left.ensures.gives

pub table_given : goal.tables::table-returns-clause-gives
table_given t c =
    let L = c.args.source.layout.now in
    let unknown = c.args.source.unknown in
    let ms = members_view c.args.members.now.entries in
    rw (view-Fields c.args.owner c.in_ok-entries.entries) (table_gives L unknown ms (look L unknown ms) c.args.owner.0
    c.args.place c.args.room.levels c.args.room.left (map (option_map view) c.in_ok-entries.entries.items)
    c.in_ok-entries.left (omega arith) (omega arith) c.in_ok-members_by_slot.ensures.known
    (rw c.slots_of-slots.ensures.slots at (c.in_ok-entries.ensures.gives ms c.in_ok-members_by_slot.ensures.members)))

pub member_given : goal.entries::member-returns-clause-gives
member_given t c =
    let is : Some c.in-Some.table.0 ≡ member_by_code c.args.source.layout.now c.args.union.0 c.args.slot.code =
    rw c.schema.ensures.schema at c.in-Some.ensures in
    rw (← is, c.in_ok-value.ensures.gives, view-Member c.args.slot.code c.in_ok-new.field-0, c.in_ok-new.ensures.ok) refl
