use Rattle.std.proofs.Common.{◌≡◌, ◌≢◌, ◌-◌, ◌+◌, ◌∙◌, sym, arith}
use Rattle.fb_resolve.proofs.namespaces.MapsMade.{fork-of-map, side-of-fork, leaf-of-fork}
use Rattle.fb_resolve.proofs.namespaces.maps.Maps.get.Goals as goal

pub loop-level-preserved : goal.loop-level-preserved
loop-level-preserved c =
    let forks = c.args.self.now.forks.items in
    let height = c.args.self.now.height in
    let left = c.loop-level.left in
    let levels = height - c.loop-level._level in
    let above : levels ≢ 0 = omega arith in
    let f = fork-of-map forks levels _ c.index.result.now above c.loop-level.invariant.map c.index.ensures in
    let lower : levels - 1 ≡ height - (c.loop-level._level + 1) = omega arith in
    record {
      map = rw (← lower, c.side-place.ensures) (side-of-fork f left);
      leaf = rw (← lower, c.side-place.ensures) (sym (leaf-of-fork f left) ∙ c.loop-level.invariant.leaf);
    }
