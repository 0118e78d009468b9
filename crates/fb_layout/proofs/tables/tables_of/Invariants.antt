use Rattle.std.proofs.Common.{◌≡◌, map, option_map, drop}
use Rattle.fb_schema.specs.Seen.{type_seen}
use Rattle.fb_layout.specs.Known.{sizes_seen, tables_from}
use Rattle.fb_layout.proofs.tables.OneTypeMore.{behind_all}
use Rattle.fb_layout.proofs.tables.tables_of.Given as goal

abbrev pub invariant-loop-number : goal.invariant-loop-number
invariant-loop-number l = let known = map (option_map sizes_seen) l.structs in
    behind_all l.tables.items (tables_from l.schema known l.number (map type_seen (drop l.number l.types)))
    ≡ tables_from l.schema known 0 (map type_seen l.types)
