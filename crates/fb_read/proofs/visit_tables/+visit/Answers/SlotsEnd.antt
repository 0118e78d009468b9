-- How a walk ends at a table's slots, at one of them, and at a union's value.
use Rattle.std.proofs.Common.{◌+◌, length, drop, refl, sym}
use Rattle.std.proofs.lemmas.Result.{err_from_is_err_and}
use Rattle.fb_schema.specs.declared.kinds.Kind.{Kind}
use Rattle.fb_schema.specs.declared.kinds.Shape.{Shape}
use Rattle.fb_layout.specs.Laid.{stored_kind, member_by_code}
use Rattle.fb_value.specs.Places.{table_part, vector_part, text_part, ref_place, code_place, is_present, next_required}
use Rattle.fb_value.specs.Places.{inline_place}
use Rattle.fb_read.specs.Ends.{slot_at, slots_at}
use Rattle.fb_read.specs.Entered.{parts_from}
use Rattle.fb_read.specs.Visits.{slots_seen}
use Rattle.fb_read.specs.Walks.{place, limits_of}
use Rattle.fb_read.proofs.visit_tables.CountsGoOn.{refused_then, exact_then, at_end, below}
use Rattle.fb_read.proofs.visit_tables.PartsAddUp.{slots_sum}
use Rattle.fb_read.proofs.visit_tables.StaysWhole.{all_slots_whole, inline_at}
use Rattle.fb_read.proofs.stored.SlotNamesItsPlace.{slot_names, slot_names_one, slot_names_code, slot_names_none}
use Rattle.fb_read.proofs.stored.SlotNamesItsPlace.{slot_names_union}
use Rattle.fb_read.proofs.visit_tables.EndsAtASlot.{slot_ends, no_place_passes, leaf_ends, member_ends}
use Rattle.fb_read.proofs.visit_tables.EndsAtASlot.{no_member_passes, slot_was_refused}
use Rattle.fb_read.proofs.visit_tables.FrontIsFreeOfFaults.{front_fails, slots_rest_free, slot_found}
use Rattle.fb_read.proofs.visit_tables.+visit.Goals as goal

pub a_slot_refused : goal.visit_slots-returns-in_err-visited
a_slot_refused g t c =
    let p = err_from_is_err_and c.from_residual.result c.from_residual.ensures.1 in
    let buffer = c.args.buffer.now in
    let L = buffer.layout.now in
    let b = buffer.bytes.now in
    let rest = drop (c.loop-slot.slot + 1) c.args.slots.now in
    let ends = slot_was_refused g.H.Hearer.told buffer c.args.table.at c.loop-slot.slot c.split_at.result.1.now rest
    c.index-slots-slot.result c.args.tables c.loop-slot.walk c.visit_slot-visited.new.walk c.visit_slot-visited.result
    c.in_err-visited.field-0.0 c.split_at.ensures.back c.in_err-visited.was c.visit_slot-visited.ensures in
    let tells = rw c.in_err-visited.was at c.tell.ensures.told in
    let less = below c.loop-slot.slot c.stored_slots-present.result (length c.args.slots.now) c.loop-slot-test.true
    c.stored_slots-present.ensures.few in
    let there = slot_at buffer c.args.table.at c.loop-slot.slot rest c.index-slots-slot.result in
    let found = slot_found L b c.args.table.at c.loop-slot.slot c.args.slots.now c.index-slots-slot.result less
    c.index-slots-slot.is in
    rw (p.1, p.2) (record {
      visit = front_fails L b (limits_of buffer) (slots_at buffer c.args.table.at c.args.slots.now)
          c.loop-slot.slot there c.args.tables c.args.walk.now.spent c.loop-slot.walk.spent
          c.in_err-visited.field-0.0 found c.loop-slot.invariant.before ends.visit;
      ticks = refused_then c.args.walk.now.ticks c.args.walk.now.spent c.loop-slot.walk.ticks c.loop-slot.walk.spent
          c.visit_slot-visited.new.walk.ticks c.tell.new.walk.ticks buffer.most_cells c.loop-slot.invariant.ticked
          ends.ticks c.tell.ensures.ticks;
      comes = rw (← c.loop-slot.invariant.silent) (record {
        index = c.loop-slot.slot;
        there = there;
        spent_there = c.loop-slot.walk.spent;
        comes = record { names = found; before = c.loop-slot.invariant.before };
        steps = ends.comes.steps;
        fault = ends.comes.fault;
        heard = tells c.loop-slot.walk.hearer ends.comes.steps ends.comes.heard;
        leads = ends.comes.leads;
        entered = exact_then c.args.walk.now.ticks c.loop-slot.walk.ticks c.visit_slot-visited.new.walk.ticks
            c.tell.new.walk.ticks _ _ c.loop-slot.invariant.exact ends.comes.entered c.tell.ensures.ticks;
      });
    })

pub slots_passed : goal.visit_slots-returns
slots_passed g t c =
    let buffer = c.args.buffer.now in
    let L = buffer.layout.now in
    let b = buffer.bytes.now in
    let past = c.stored_slots-present.ensures.past in
    let end = at_end c.loop-slot.slot c.stored_slots-present.result c.loop-slot.auto.slot-end c.loop-slot-test.false in
    record {
      visit = slots_rest_free L b (limits_of buffer) c.args.table.at c.loop-slot.slot c.stored_slots-present.result
          c.args.slots.now c.args.tables c.args.walk.now.spent c.loop-slot.walk.spent end past
          c.loop-slot.invariant.before;
      few = c.loop-slot.invariant.few;
      ticks = c.loop-slot.invariant.ticked;
      exact = slots_sum L b (parts_from L b) c.args.table.at c.loop-slot.slot c.stored_slots-present.result
          c.args.slots.now c.args.walk.now.ticks c.loop-slot.walk.ticks end past c.loop-slot.invariant.exact;
      silent = c.loop-slot.invariant.silent;
      whole = all_slots_whole buffer c.args.table.at c.loop-slot.slot c.stored_slots-present.result c.args.slots.now
          c.args.walk.now c.loop-slot.walk end past c.loop-slot.invariant.whole;
    }

pub deprecated_passed : goal.visit_slot-returns-then-slot
deprecated_passed g t c =
    no_place_passes c.args.buffer.now
    (slot_at c.args.buffer.now c.args.table.at c.args.slot.number c.args.slot.later.now c.args.slot.field.now)
    c.args.tables c.args.walk.now (rw c.if-slot.true refl) c.requires.limits.few

pub absent_passed : goal.visit_slot-returns-then-offset-eq0
absent_passed g t c =
    let buffer = c.args.buffer.now in
    no_place_passes buffer
    (slot_at buffer c.args.table.at c.args.slot.number c.args.slot.later.now c.args.slot.field.now) c.args.tables
    c.args.walk.now
    (slot_names_none buffer.layout.now buffer.bytes.now c.args.table.at c.args.slot.number c.held_slot-offset.result
    c.args.slot.later.now c.args.slot.field.now c.held_slot-offset.ensures.number c.if-offset-eq0.true)
    c.requires.limits.few

pub vector_slot_ends : goal.visit_slot-returns-in-Many
vector_slot_ends g t c =
    let buffer = c.args.buffer.now in
    let L = buffer.layout.now in
    slot_ends g.H.Hearer.told buffer
    (slot_at buffer c.args.table.at c.args.slot.number c.args.slot.later.now c.args.slot.field.now)
    (place (ref_place (vector_part (stored_kind L.schema c.in-Many.kind))) (c.args.table.at
    + c.held_slot-offset.result)) c.args.tables c.args.walk.now c.visit_vector_behind.new.walk
    c.visit_vector_behind.result
    (slot_names L buffer.bytes.now c.args.table.at c.args.slot.number c.held_slot-offset.result c.args.slot.later.now
    c.args.slot.field.now (Shape.Many c.in-Many.kind) c.if-slot.false c.in-Many.is c.held_slot-offset.ensures.number
    c.if-offset-eq0.false refl) c.visit_vector_behind.ensures

pub text_slot_ends : goal.visit_slot-returns-in-One-Text
text_slot_ends g t c =
    let buffer = c.args.buffer.now in
    slot_ends g.H.Hearer.told buffer
    (slot_at buffer c.args.table.at c.args.slot.number c.args.slot.later.now c.args.slot.field.now)
    (place (ref_place text_part) (c.args.table.at + c.held_slot-offset.result)) c.args.tables c.args.walk.now
    c.visit_text_behind.new.walk c.visit_text_behind.result
    (slot_names_one buffer.layout.now buffer.bytes.now c.args.table.at c.args.slot.number c.held_slot-offset.result
    c.args.slot.later.now c.args.slot.field.now c.in-One-Text.field-0 Kind.Text c.if-slot.false c.in-One-Text.is
    (rw c.in-One-Text.is at c.in-One-Text.field-0-is) c.held_slot-offset.ensures.number c.if-offset-eq0.false refl)
    c.visit_text_behind.ensures

pub table_slot_ends : goal.visit_slot-returns-in-One-Table
table_slot_ends g t c =
    let buffer = c.args.buffer.now in
    slot_ends g.H.Hearer.told buffer
    (slot_at buffer c.args.table.at c.args.slot.number c.args.slot.later.now c.args.slot.field.now)
    (place (ref_place (table_part c.in-One-Table.type_id.0)) (c.args.table.at + c.held_slot-offset.result))
    c.args.tables c.args.walk.now c.visit_table_behind.new.walk c.visit_table_behind.result
    (slot_names_one buffer.layout.now buffer.bytes.now c.args.table.at c.args.slot.number c.held_slot-offset.result
    c.args.slot.later.now c.args.slot.field.now c.in-One-Table.field-0 (Kind.Table c.in-One-Table.type_id)
    c.if-slot.false c.in-One-Table.is (rw c.in-One-Table.is at c.in-One-Table.field-0-is)
    c.held_slot-offset.ensures.number c.if-offset-eq0.false refl) c.visit_table_behind.ensures

pub union_slot_ends : goal.visit_slot-returns-in-One-Union
union_slot_ends g t c =
    let buffer = c.args.buffer.now in
    rw (slot_names_union buffer.layout.now buffer.bytes.now c.args.table.at c.args.slot.number
    c.held_slot-offset.result c.args.slot.later.now c.args.slot.field.now
    c.in-One-Union.field-0 c.in-One-Union.union c.union_code-code.result c.if-slot.false c.in-One-Union.is
    (rw c.in-One-Union.is at c.in-One-Union.field-0-is) c.held_slot-offset.ensures.number
    c.if-offset-eq0.false c.union_code-code.ensures) c.visit_union.ensures

pub code_slot_ends : goal.visit_slot-returns-in-One-Code
code_slot_ends g t c =
    let buffer = c.args.buffer.now in
    leaf_ends g.H.Hearer.told buffer g.met.H.Hearer.silent
    (slot_at buffer c.args.table.at c.args.slot.number c.args.slot.later.now c.args.slot.field.now)
    (place (code_place c.in-One-Code.union.0 (c.args.slot.number + 1)
    (next_required (slots_seen buffer.layout.now c.args.slot.later.now))
    (is_present buffer.bytes.now c.args.table.at (c.args.slot.number + 1))) (c.args.table.at +
    c.held_slot-offset.result)) c.args.tables c.args.walk.now c.visit_code.result
    (slot_names_code buffer.layout.now buffer.bytes.now c.args.table.at c.args.slot.number c.held_slot-offset.result
    c.args.slot.later.now c.args.slot.field.now c.in-One-Code.field-0 c.in-One-Code.union c.if-slot.false
    c.in-One-Code.is
    (rw c.in-One-Code.is at c.in-One-Code.field-0-is) c.held_slot-offset.ensures.number c.if-offset-eq0.false) refl refl
    (λ d lies. absurd lies) c.requires.limits.few (c.visit_code.ensures c.args.tables c.args.walk.now.spent c.in-One-Code.union.0)

pub number_slot_ends : goal.visit_slot-returns-in-One-Scalar
number_slot_ends g t c =
    let buffer = c.args.buffer.now in
    let kind = Kind.Scalar c.in-One-Scalar.base in
    leaf_ends g.H.Hearer.told buffer g.met.H.Hearer.silent
    (slot_at buffer c.args.table.at c.args.slot.number c.args.slot.later.now c.args.slot.field.now)
    (place (inline_place (stored_kind buffer.layout.now.schema kind)) (c.args.table.at + c.held_slot-offset.result))
    c.args.tables c.args.walk.now c.visit_inline.result
    (slot_names_one buffer.layout.now buffer.bytes.now c.args.table.at c.args.slot.number c.held_slot-offset.result
    c.args.slot.later.now c.args.slot.field.now c.in-One-Scalar.field-0 kind c.if-slot.false c.in-One-Scalar.is
    (rw c.in-One-Scalar.is at c.in-One-Scalar.field-0-is) c.held_slot-offset.ensures.number c.if-offset-eq0.false refl)
    refl refl (inline_at buffer (stored_kind buffer.layout.now.schema kind) (c.args.table.at
    + c.held_slot-offset.result)) c.requires.limits.few (c.visit_inline.ensures c.args.tables c.args.walk.now.spent)

pub enum_slot_ends : goal.visit_slot-returns-in-One-Enum
enum_slot_ends g t c =
    let buffer = c.args.buffer.now in
    let kind = Kind.Enum c.in-One-Enum.values in
    leaf_ends g.H.Hearer.told buffer g.met.H.Hearer.silent
    (slot_at buffer c.args.table.at c.args.slot.number c.args.slot.later.now c.args.slot.field.now)
    (place (inline_place (stored_kind buffer.layout.now.schema kind)) (c.args.table.at + c.held_slot-offset.result))
    c.args.tables c.args.walk.now c.visit_inline-in-One-Enum.result
    (slot_names_one buffer.layout.now buffer.bytes.now c.args.table.at c.args.slot.number c.held_slot-offset.result
    c.args.slot.later.now c.args.slot.field.now c.in-One-Enum.field-0 kind c.if-slot.false c.in-One-Enum.is
    (rw c.in-One-Enum.is at c.in-One-Enum.field-0-is) c.held_slot-offset.ensures.number c.if-offset-eq0.false refl)
    refl refl (inline_at buffer (stored_kind buffer.layout.now.schema kind) (c.args.table.at
    + c.held_slot-offset.result)) c.requires.limits.few (c.visit_inline-in-One-Enum.ensures c.args.tables c.args.walk.now.spent)

pub struct_slot_ends : goal.visit_slot-returns-in-One-Struct
struct_slot_ends g t c =
    let buffer = c.args.buffer.now in
    let kind = Kind.Struct c.in-One-Struct.structure in
    leaf_ends g.H.Hearer.told buffer g.met.H.Hearer.silent
    (slot_at buffer c.args.table.at c.args.slot.number c.args.slot.later.now c.args.slot.field.now)
    (place (inline_place (stored_kind buffer.layout.now.schema kind)) (c.args.table.at + c.held_slot-offset.result))
    c.args.tables c.args.walk.now c.visit_inline-in-One-Struct.result
    (slot_names_one buffer.layout.now buffer.bytes.now c.args.table.at c.args.slot.number c.held_slot-offset.result
    c.args.slot.later.now c.args.slot.field.now c.in-One-Struct.field-0 kind c.if-slot.false c.in-One-Struct.is
    (rw c.in-One-Struct.is at c.in-One-Struct.field-0-is) c.held_slot-offset.ensures.number c.if-offset-eq0.false refl)
    refl refl (inline_at buffer (stored_kind buffer.layout.now.schema kind) (c.args.table.at
    + c.held_slot-offset.result)) c.requires.limits.few (c.visit_inline-in-One-Struct.ensures c.args.tables c.args.walk.now.spent)

pub member_value_ends : goal.visit_union-returns-in-Some
member_value_ends g t c =
    let buffer = c.args.buffer.now in
    member_ends g.H.Hearer.told buffer g.met.H.Hearer.silent
    (member_by_code buffer.layout.now c.args.union.0 c.args.code) c.args.code c.in-Some.table.0 c.args.at c.args.tables
    c.args.walk.now c.visit_table_behind.new.walk c.visit_table_behind.result
    (sym (rw c.schema.ensures.schema at c.in-Some.ensures)) c.visit_table_behind.ensures

pub no_member_passed : goal.visit_union-returns-in-None
no_member_passed g t c =
    let buffer = c.args.buffer.now in
    no_member_passes buffer (member_by_code buffer.layout.now c.args.union.0 c.args.code) c.args.code
    c.args.at c.args.tables c.args.walk.now (sym (rw c.schema.ensures.schema at c.in-None.ensures))
    c.requires.limits.few
