use Rattle.std.proofs.Common.{◌≡◌, [], map, option_map, drop}
use Rattle.fb_schema.specs.Seen.{type_seen}
use Rattle.fb_layout.specs.Known.{sizes_seen, known_from}
use Rattle.fb_layout.proofs.structs.structs_of.Given as goal

abbrev pub invariant-loop-info : goal.invariant-loop-info
invariant-loop-info l = known_from l.schema (map (option_map sizes_seen) l.structs.items)
    (map type_seen (drop l.info-index l.types)) ≡ known_from l.schema [] (map type_seen l.types)
