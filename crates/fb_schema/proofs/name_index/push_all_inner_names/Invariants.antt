use Rattle.std.proofs.Common.{map, take}
use Rattle.fb_index.specs.DigestIndexes.{KeepsPlaces}
use Rattle.fb_schema.specs.Seen.{type_seen}
use Rattle.fb_schema.specs.Indexed.{IndexesInner}
use Rattle.fb_schema.proofs.name_index.push_all_inner_names.Given as goal

abbrev pub invariant-loop-number : goal.invariant-loop-number
invariant-loop-number l = record {
  inner : IndexesInner l.digests.keys l.key l.firsts.items (map type_seen (take l.number l.types));
  kept : KeepsPlaces l.initial.digests.keys l.digests.keys;
}
