use Rattle.std.proofs.Common.{◌≡◌, ◌+◌, ◌-◌, ◌≤◌, [], arith}
use Rattle.fb_text.proofs.noted.PiecesAddUp.{then, added_as}
use Rattle.fb_text.proofs.indents.LevelsAddUp.{levels_joined, levels_front}
use Rattle.fb_text.proofs.lines.put_levels.Goals as goal

pub loop-left-preserved : goal.loop-left-preserved
loop-left-preserved g c end rest =
    let left = c.loop-left.left in
    let sum : 32 + (left - 32) ≡ left = omega (arith, c.loop-left-test.true) in
    c.loop-left.invariant end (added_as (levels_joined 32 (left - 32) left sum) (then c.put.ensures rest))

pub returns : goal.returns
returns g c =
    let few : c.loop-left.left ≤ 32 = omega (arith, c.loop-left-test.false) in
    c.loop-left.invariant _ (added_as (levels_front 32 c.loop-left.left [] few) c.put-2.ensures)
