use Rattle.std.proofs.Common.{refl}
use Rattle.fb_conform.specs.declared.difference.Difference.TheVariants.{Breach as Broken}
use Rattle.fb_conform.specs.Listed.{is_breach}
use Rattle.fb_conform.proofs.comparison.ListsHaveEachDifference.{all_listed, in_order}
use Rattle.fb_conform.proofs.comparison.all_breaches.Goals as goal

pub returns-clause-all : goal.returns-clause-all
returns-clause-all c = λ b.
    all_listed c.args.old.now c.args.new.now is_breach Broken c.walk.new.hearer.items c.in_ok-walk.ensures b refl
    (λ r same. cc)

pub returns-clause-order : goal.returns-clause-order
returns-clause-order c =
    in_order c.args.old.now c.args.new.now is_breach Broken c.walk.new.hearer.items c.in_ok-walk.ensures
