use Rattle.std.proofs.Common.{◌≡◌, ◌++◌, map, length}
use Rattle.fb_schema.specs.Seen.{field_seen}
use Rattle.fb_resolve.specs.SlotsRead.{slots_in_order}
use Rattle.fb_resolve.proofs.slots.slots_in_order.Given as goal

abbrev pub invariant-loop-field : goal.invariant-loop-field
invariant-loop-field l = map field_seen l.slots.items
    ++ slots_in_order (length (map field_seen l.slots.items)) l.field-iterator.rest.items ≡ slots_in_order 0
    l.fn.fields.items
