use Rattle.std.proofs.Common.{◌≡◌, ◌≤◌, ◌+◌, length, map, take}
use Rattle.fb_index.specs.DigestIndexes.{KeepsPlaces}
use Rattle.fb_schema.specs.Indexed.{AreAt}
use Rattle.fb_schema.proofs.name_index.push_names.Given as goal

abbrev pub invariant-loop-item : goal.invariant-loop-item
invariant-loop-item g l = record {
  at : AreAt l.digests.keys l.key (length l.initial.digests.keys) (map g.T.Named.name (take l.item-index l.items));
  kept : KeepsPlaces l.initial.digests.keys l.digests.keys;
  count : length l.digests.keys ≡ length l.initial.digests.keys + l.item-index;
  spare : length l.items ≤ l.digests.spare + l.item-index;
}
