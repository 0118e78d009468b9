use Rattle.std.proofs.Common.{◌≡◌, length, map, take}
use Rattle.fb_schema.specs.Seen.{type_seen}
use Rattle.fb_schema.proofs.NumbersIndexed.{EachOrdered}
use Rattle.fb_schema.proofs.number_index.NumberIndex.of.Given as goal

abbrev pub invariant-loop-info : goal.invariant-loop-info
invariant-loop-info l = record {
  count : length l.firsts.items ≡ l.info-index;
  each : EachOrdered l.places.items l.firsts.items (map type_seen (take l.info-index l.types));
}
