use Rattle.std.proofs.Common.{◌≡◌, map, take, fold}
use Rattle.fb_index.specs.HashKeys.{nothing_written}
use Rattle.fb_schema.specs.Keys.{with_type}
use Rattle.fb_schema.specs.Seen.{type_seen}
use Rattle.fb_schema.proofs.keys.key_of_types.Given as goal

abbrev pub invariant-loop-info : goal.invariant-loop-info
invariant-loop-info l = l.digest ≡ fold with_type nothing_written (map type_seen (take l.info-index l.types))
