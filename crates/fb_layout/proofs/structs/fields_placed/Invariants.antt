use Rattle.std.proofs.Common.{◌≡◌, map, option_map, drop}
use Rattle.fb_schema.specs.Seen.{field_seen}
use Rattle.fb_layout.specs.Known.{sizes_seen, each_added, field_placed, no_fields}
use Rattle.fb_layout.proofs.structs.fields_placed.Given as goal

abbrev pub invariant-loop-field : goal.invariant-loop-field
invariant-loop-field l = let step = field_placed l.schema (map (option_map sizes_seen) l.structs) in
    each_added step (record { size = l.size; align = l.align; offsets = l.offsets.items })
    (map field_seen (drop l.field-index l.fields)) ≡ each_added step no_fields (map field_seen l.fields)
