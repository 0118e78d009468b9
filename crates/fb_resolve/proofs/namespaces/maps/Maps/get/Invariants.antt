use Rattle.std.proofs.Common.{◌≡◌, ◌-◌}
use Rattle.fb_resolve.specs.Maps.{leaf_in, IsMapIn}
use Rattle.fb_resolve.proofs.namespaces.maps.Maps.get.Given as goal

abbrev pub invariant-loop-level : goal.invariant-loop-level
invariant-loop-level l = record {
  map : IsMapIn l.self.forks.items (l.self.height - l._level) l.place;
  leaf : leaf_in l.self.forks.items (l.self.height - l._level) l.place l.left
      ≡ leaf_in l.self.forks.items l.self.height l.map l.key;
}
