use Rattle.std.proofs.Common.{◌≡◌, ◌≤◌, length, drop}
use Rattle.fb_tape.proofs.laying_order.LowAlignmentsAreLeft.{Falling}
use Rattle.fb_tape.proofs.laying_order.note_fields.Given as goal

abbrev pub invariant-loop-notes : goal.invariant-loop-notes
invariant-loop-notes l = record {
  size : l.offsets.size ≡ l.fn.offsets.size;
  grown : length l.fn.bytes.items ≤ length l.bytes.items;
  more : length l.fn.notes.items ≤ length l.notes.items;
  left : Falling l.align l.offsets.size (drop l.first l.opened) l.notes.items l.fn.notes.items l.bytes.items
      l.fn.bytes.items l.offsets.laid l.fn.offsets.laid l.offsets.vtable.items l.fn.offsets.vtable.items;
}

abbrev pub decreases-loop-notes : goal.decreases-loop-notes
decreases-loop-notes l = l.align
