use Rattle.std.proofs.Common.{◌≡◌, ◌≤◌, ◌+◌, ◌*◌, length, drop}
use Rattle.std.specs.List.{All}
use Rattle.fb_tape.specs.StoredTables.{at_align}
use Rattle.fb_tape.proofs.stored_tables.FieldsInTurn.{Noting}
use Rattle.fb_tape.proofs.laying_order.note_fields_at.Given as goal

abbrev pub invariant-loop-i : goal.invariant-loop-i
invariant-loop-i l =
    (length l.fn.bytes.items ≤ length l.bytes.items) × (l.offsets.size ≡ l.fn.offsets.size)
    × All (λ x. 6 + 2 * x.slot ≤ length l.fn.offsets.vtable.items) (drop l.i l.opened)
    × Noting l.offsets.size (at_align l.align (drop l.i l.opened)) (at_align l.align (drop l.first l.opened))
    l.notes.items l.fn.notes.items l.bytes.items l.fn.bytes.items l.offsets.laid l.fn.offsets.laid
    l.offsets.vtable.items l.fn.offsets.vtable.items
