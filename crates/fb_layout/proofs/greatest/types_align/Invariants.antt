use Rattle.std.proofs.Common.{◌≡◌, max, map, option_map, drop}
use Rattle.fb_schema.specs.Seen.{type_seen}
use Rattle.fb_schema.specs.Alignments.{greatest_in}
use Rattle.fb_layout.specs.Widths.{slots_align}
use Rattle.fb_layout.specs.Known.{sizes_seen, layout_known}
use Rattle.fb_layout.proofs.greatest.types_align.Given as goal

abbrev pub invariant-loop-info : goal.invariant-loop-info
invariant-loop-info l = let align = slots_align (layout_known l.schema (map (option_map sizes_seen) l.structs)) in
    max l.greatest (greatest_in (map align (map type_seen (drop l.info-index l.types))))
    ≡ greatest_in (map align (map type_seen l.types))
