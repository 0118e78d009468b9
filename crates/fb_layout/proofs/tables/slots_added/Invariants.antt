use Rattle.std.proofs.Common.{◌≡◌, map, option_map, drop}
use Rattle.fb_schema.specs.Seen.{field_seen}
use Rattle.fb_layout.specs.Known.{sizes_seen, each_added, slot_added, no_slots}
use Rattle.fb_layout.proofs.tables.slots_added.Given as goal

abbrev pub invariant-loop-field : goal.invariant-loop-field
invariant-loop-field l = let step = slot_added l.schema (map (option_map sizes_seen) l.structs) in
    each_added step l.sizes (map field_seen (drop l.field-index l.slots))
    ≡ each_added step no_slots (map field_seen l.slots)
