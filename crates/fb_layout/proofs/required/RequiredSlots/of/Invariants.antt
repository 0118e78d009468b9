use Rattle.std.proofs.Common.{◌≡◌, length, map, take}
use Rattle.fb_schema.specs.Seen.{type_seen}
use Rattle.fb_layout.specs.RequiredHeld.{start_of, HaveNumbers}
use Rattle.fb_layout.proofs.required.RequiredSlots.of.Given as goal

abbrev pub invariant-loop-info : goal.invariant-loop-info
invariant-loop-info l = record {
  total : start_of l.ends.items (length l.ends.items) ≡ length l.numbers.items;
  have : HaveNumbers l.numbers.items l.ends.items (map type_seen (take l.info-index l.types));
}
