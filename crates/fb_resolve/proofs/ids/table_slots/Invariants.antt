use Rattle.std.proofs.Common.{◌≡◌, ◌++◌, map}
use Rattle.fb_schema.specs.Seen.{field_seen}
use Rattle.fb_resolve.specs.Ids.{slots_by_id}
use Rattle.fb_resolve.proofs.ids.table_slots.Given as goal

abbrev pub invariant-loop-field : goal.invariant-loop-field
invariant-loop-field l = map field_seen l.slots.items
    ++ slots_by_id l.field-iterator.rest.items ≡ slots_by_id l.fn.table.fields
