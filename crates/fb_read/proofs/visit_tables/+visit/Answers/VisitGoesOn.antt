-- A loop goes on to the next slot or element.
use Rattle.std.proofs.Common.{◌+◌, ◌*◌, length, drop, Some, refl, ◌∙◌, arith}
use Rattle.fb_value.specs.Places.{ref_place}
use Rattle.fb_value.specs.Places.{named_slots, named_elements}
use Rattle.fb_read.specs.Values.{led_to}
use Rattle.fb_read.specs.Walks.{place, limits_of}
use Rattle.fb_read.specs.Visits.{slots_seen}
use Rattle.fb_read.proofs.visit_tables.EndsAtAPlace.{ends_passed}
use Rattle.fb_read.proofs.visit_tables.EndsAtASlot.{slot_passed}
use Rattle.fb_read.proofs.visit_tables.CountsGoOn.{entered_then, below}
use Rattle.fb_read.specs.Entered.{parts_from}
use Rattle.fb_read.proofs.visit_tables.PartsAddUp.{sum_next}
use Rattle.fb_read.proofs.visit_tables.StaysWhole.{next_whole}
use Rattle.fb_read.proofs.visit_tables.VisitsOnePlaceAfterAnother.{each_nil}
use Rattle.fb_read.proofs.visit_tables.FrontIsFreeOfFaults.{front_next}
use Rattle.fb_read.proofs.visit_tables.FrontIsFreeOfFaults.{slot_found, element_named}
use Rattle.fb_read.proofs.visit_tables.+visit.Goals as goal

pub next_element_visited : goal.visit_elements-loop-i-preserved
next_element_visited g t c =
    let buffer = c.args.buffer.now in
    let L = buffer.layout.now in
    let b = buffer.bytes.now in
    let xs = named_elements (led_to c.args.reference) c.args.at c.args.count in
    let here = place (ref_place (led_to c.args.reference)) (c.args.at + 4 * c.loop-i.i) in
    let passes = ends_passed g.H.Hearer.told buffer here c.args.tables c.loop-i.walk c.visit_behind-visited.new.walk
    c.visit_behind-visited.result c.in_ok-visited.field-0 c.in_ok-visited.was c.visit_behind-visited.ensures in
    let told = rw c.in_ok-visited.was at c.tell.ensures.told in
    let named = element_named (led_to c.args.reference) c.args.at c.args.count c.loop-i.i c.loop-i-test.true in
    record {
      before = rw c.tell.ensures.spent (front_next L b (limits_of buffer) xs c.loop-i.i (Some here) c.args.tables
          c.args.walk.now.spent c.loop-i.walk.spent c.visit_behind-visited.new.walk.spent named
          c.loop-i.invariant.before passes.visit);
      silent = told ∙ passes.silent ∙ c.loop-i.invariant.silent;
      whole = next_whole buffer xs c.args.walk.now c.loop-i.walk c.visit_behind-visited.new.walk c.tell.new.walk
          c.loop-i.i (Some here) named c.loop-i.invariant.whole passes.whole c.tell.ensures.whole;
      few = rw c.tell.ensures.spent passes.few;
      ticked = entered_then c.args.walk.now.ticks c.args.walk.now.spent c.loop-i.walk.ticks c.loop-i.walk.spent
          c.visit_behind-visited.new.walk.ticks c.visit_behind-visited.new.walk.spent c.tell.new.walk.ticks
          c.tell.new.walk.spent
          c.loop-i.invariant.ticked passes.ticks c.tell.ensures.ticks c.tell.ensures.spent;
      exact = rw c.tell.ensures.ticks (sum_next (parts_from L b) xs c.loop-i.i (Some here) c.args.walk.now.ticks
          c.loop-i.walk.ticks c.visit_behind-visited.new.walk.ticks named c.loop-i.invariant.exact passes.exact);
    }

pub next_slot_visited : goal.visit_slots-loop-slot-preserved
next_slot_visited g t c =
    let buffer = c.args.buffer.now in
    let L = buffer.layout.now in
    let b = buffer.bytes.now in
    let xs = named_slots L b c.args.table.at 0 (slots_seen L c.args.slots.now) in
    let passes = slot_passed g.H.Hearer.told buffer c.args.table.at c.loop-slot.slot c.split_at.result.1.now
    (drop (c.loop-slot.slot + 1) c.args.slots.now) c.index-slots-slot.result c.args.tables c.loop-slot.walk
    c.visit_slot-visited.new.walk c.visit_slot-visited.result c.in_ok-visited.field-0
    c.split_at.ensures.back c.in_ok-visited.was c.visit_slot-visited.ensures in
    let told = rw c.in_ok-visited.was at c.tell.ensures.told in
    let less = below c.loop-slot.slot c.stored_slots-present.result (length c.args.slots.now) c.loop-slot-test.true
    c.stored_slots-present.ensures.few in
    let found = slot_found L b c.args.table.at c.loop-slot.slot c.args.slots.now c.index-slots-slot.result less
    c.index-slots-slot.is in
    record {
      before = rw c.tell.ensures.spent (front_next L b (limits_of buffer) xs c.loop-slot.slot _ c.args.tables
          c.args.walk.now.spent c.loop-slot.walk.spent c.visit_slot-visited.new.walk.spent found
          c.loop-slot.invariant.before passes.visit);
      silent = told ∙ passes.silent ∙ c.loop-slot.invariant.silent;
      whole = next_whole buffer xs c.args.walk.now c.loop-slot.walk c.visit_slot-visited.new.walk c.tell.new.walk
          c.loop-slot.slot _ found c.loop-slot.invariant.whole passes.whole c.tell.ensures.whole;
      few = rw c.tell.ensures.spent passes.few;
      ticked = entered_then c.args.walk.now.ticks c.args.walk.now.spent c.loop-slot.walk.ticks c.loop-slot.walk.spent
          c.visit_slot-visited.new.walk.ticks c.visit_slot-visited.new.walk.spent c.tell.new.walk.ticks
          c.tell.new.walk.spent
          c.loop-slot.invariant.ticked passes.ticks c.tell.ensures.ticks c.tell.ensures.spent;
      exact = rw c.tell.ensures.ticks (sum_next (parts_from L b) xs c.loop-slot.slot _ c.args.walk.now.ticks
          c.loop-slot.walk.ticks c.visit_slot-visited.new.walk.ticks found c.loop-slot.invariant.exact passes.exact);
    }

pub next_slot_passed_by : goal.visit_slots-loop-slot-preserved-then-is_settled
next_slot_passed_by g t c =
    let buffer = c.args.buffer.now in
    let L = buffer.layout.now in
    let b = buffer.bytes.now in
    let xs = named_slots L b c.args.table.at 0 (slots_seen L c.args.slots.now) in
    let rest = slots_seen L (drop (c.loop-slot.slot + 1) c.args.slots.now) in
    let fine = c.is_settled.ensures.visit c.if-is_settled.true rest c.args.tables c.loop-slot.walk.spent in
    let less = below c.loop-slot.slot c.stored_slots-present.result (length c.args.slots.now) c.loop-slot-test.true
    c.stored_slots-present.ensures.few in
    let found = slot_found L b c.args.table.at c.loop-slot.slot c.args.slots.now c.index-slots-slot.result less
    c.index-slots-slot.is in
    record {
      before = front_next L b (limits_of buffer) xs c.loop-slot.slot _ c.args.tables c.args.walk.now.spent
          c.loop-slot.walk.spent c.loop-slot.walk.spent found c.loop-slot.invariant.before fine;
      silent = c.loop-slot.invariant.silent;
      whole = next_whole buffer xs c.args.walk.now c.loop-slot.walk c.loop-slot.walk c.loop-slot.walk
          c.loop-slot.slot _ found c.loop-slot.invariant.whole
          (λ still. (still, c.is_settled.ensures.whole c.if-is_settled.true rest)) refl;
      few = c.loop-slot.invariant.few;
      ticked = c.loop-slot.invariant.ticked;
      exact = sum_next (parts_from L b) xs c.loop-slot.slot _ c.args.walk.now.ticks c.loop-slot.walk.ticks
          c.loop-slot.walk.ticks found c.loop-slot.invariant.exact
          (rw (c.is_settled.ensures.parts c.if-is_settled.true rest) (omega arith));
    }

pub no_slot_yet : goal.visit_slots-loop-slot-init
no_slot_yet g t c = record {
  before = each_nil c.args.buffer.now.layout.now c.args.buffer.now.bytes.now (limits_of c.args.buffer.now) c.args.tables
      c.args.walk.now.spent;
  silent = refl;
  whole = λ still. (still, λ j none. absurd (omega arith));
  few = c.requires.limits.few;
  ticked = omega arith;
  exact = omega arith;
}

pub no_element_yet : goal.visit_elements-loop-i-init
no_element_yet g t c = record {
  before = each_nil c.args.buffer.now.layout.now c.args.buffer.now.bytes.now (limits_of c.args.buffer.now) c.args.tables
      c.args.walk.now.spent;
  silent = refl;
  whole = λ still. (still, λ j none. absurd (omega arith));
  few = c.requires.limits.few;
  ticked = omega arith;
  exact = omega arith;
}
