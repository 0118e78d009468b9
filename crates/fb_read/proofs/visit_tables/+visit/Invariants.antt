use Rattle.std.proofs.Common.{◌≡◌, ◌+◌, ◌*◌, ◌-◌, ◌≤◌, Ok, take}
use Rattle.fb_value.specs.Places.{named_slots, named_elements}
use Rattle.fb_read.specs.Values.{led_to}
use Rattle.fb_read.specs.Visits.{slots_seen}
use Rattle.fb_read.specs.Ends.{StaysWhole, parts_in_each, slots_at}
use Rattle.fb_read.specs.Whole.{WholeFront}
use Rattle.fb_read.specs.Walks.{visit_each_in}
use Rattle.fb_read.proofs.visit_tables.+visit.Given as goal

-- A table's slots are visited at with one table more above them, what stands behind a slot with as many.
abbrev pub decreases-visit_slots : goal.decreases-visit_slots
decreases-visit_slots g l = 16 * (l.buffer.now.most_depth - l.tables) + 8

abbrev pub decreases-visit_slot : goal.decreases-visit_slot
decreases-visit_slot g l = 16 * (l.buffer.now.most_depth - l.tables) + 7

abbrev pub decreases-visit_union : goal.decreases-visit_union
decreases-visit_union g l = 16 * (l.buffer.now.most_depth - l.tables) + 6

abbrev pub decreases-visit_vector_behind : goal.decreases-visit_vector_behind
decreases-visit_vector_behind g l = 16 * (l.buffer.now.most_depth - l.tables) + 5

abbrev pub decreases-visit_vector : goal.decreases-visit_vector
decreases-visit_vector g l = 16 * (l.buffer.now.most_depth - l.tables) + 4

abbrev pub decreases-visit_elements : goal.decreases-visit_elements
decreases-visit_elements g l = 16 * (l.buffer.now.most_depth - l.tables) + 3

abbrev pub decreases-visit_behind : goal.decreases-visit_behind
decreases-visit_behind g l = 16 * (l.buffer.now.most_depth - l.tables) + 2

abbrev pub decreases-visit_table_behind : goal.decreases-visit_table_behind
decreases-visit_table_behind g l = 16 * (l.buffer.now.most_depth - l.tables) + 1

abbrev pub decreases-visit_table : goal.decreases-visit_table
decreases-visit_table g l = 16 * (l.buffer.now.most_depth - l.tables)

abbrev pub invariant-visit_slots-loop-slot : goal.invariant-visit_slots-loop-slot
invariant-visit_slots-loop-slot g l = record {
  before : visit_each_in l.buffer (take l.slot (named_slots l.buffer.layout.now l.buffer.bytes.now l.table.at 0
      (slots_seen l.buffer.layout.now l.slots))) l.tables l.fn.walk.spent ≡ Ok l.walk.spent;
  whole : StaysWhole l.fn.walk l.walk (WholeFront l.buffer (slots_at l.buffer l.table.at l.slots) l.slot);
  silent : l.walk.hearer ≡ l.fn.walk.hearer;
  few : l.walk.spent ≤ l.buffer.most_cells;
  ticked : l.walk.ticks + l.fn.walk.spent ≤ l.fn.walk.ticks + l.walk.spent;
  exact : l.walk.ticks ≡ l.fn.walk.ticks + parts_in_each l.buffer (take l.slot (named_slots l.buffer.layout.now
      l.buffer.bytes.now l.table.at 0 (slots_seen l.buffer.layout.now l.slots)));
}

abbrev pub invariant-visit_elements-loop-i : goal.invariant-visit_elements-loop-i
invariant-visit_elements-loop-i g l = record {
  before : visit_each_in l.buffer (take l.i (named_elements (led_to l.reference) l.at l.count)) l.tables
      l.fn.walk.spent ≡ Ok l.walk.spent;
  whole : StaysWhole l.fn.walk l.walk (WholeFront l.buffer (named_elements (led_to l.reference) l.at l.count) l.i);
  silent : l.walk.hearer ≡ l.fn.walk.hearer;
  few : l.walk.spent ≤ l.buffer.most_cells;
  ticked : l.walk.ticks + l.fn.walk.spent ≤ l.fn.walk.ticks + l.walk.spent;
  exact : l.walk.ticks ≡ l.fn.walk.ticks + parts_in_each l.buffer (take l.i (named_elements (led_to l.reference) l.at
      l.count));
}
