use Rattle.std.proofs.Common.{arith, ◌≡◌, ◌==◌, ◌<◌, false, length, get_or, take}
use Rattle.std.proofs.Math.ListN.{length-set}
use Rattle.std.proofs.lemmas.List.{get_or_default, take_more}
use Rattle.std.specs.List.{list_any}
use Rattle.std.proofs.lemmas.Bool.Decides.{nat_tests}
use Rattle.std.proofs.lemmas.Grind.{common_steps}
use Rattle.std.proofs.lemmas.List.Folds.{list_any_more}
use Rattle.fb_resolve.proofs.walk.repeated_numbers.Goals as goal

pub loop-number-preserved : goal.loop-number-preserved
loop-number-preserved c =
    let ns = c.args.numbers.now in
    let i = c.loop-number.number-index in
    let n = get_or ns i 0 in
    let marks = c.loop-number.seen.items in
    let low : n < c.args.bound = c.requires i 0 c.loop-number-test.true in
    let marked : n < length marks = omega (arith, low, c.loop-number.invariant.count) in
    let told : c.index.result.now ≡ list_any (λ m. n == m) (take i ns) =
    grind (arith, get_or_default marks n c.index.result.now false marked, c.loop-number.invariant.marks n low) in
    record {
      room = omega arith;
      count = simp length-set c.loop-number.invariant.count;
      marks = λ k h. grind (
        arith,
        common_steps,
        nat_tests,
        list_any_more (λ m. k == m) ns i 0 c.loop-number-test.true,
        c.loop-number.invariant.marks k h,
      );
      told = grind (arith, common_steps, told, take_more ns i 0 c.loop-number-test.true);
    }
