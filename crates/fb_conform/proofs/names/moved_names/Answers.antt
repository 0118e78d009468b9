use Rattle.std.proofs.Common.{refl}
use Rattle.fb_conform.specs.declared.difference.Difference.TheVariants.{Moved}
use Rattle.fb_conform.specs.Listed.{is_name}
use Rattle.fb_conform.proofs.comparison.ListsHaveEachDifference.{all_listed, in_order}
use Rattle.fb_conform.proofs.names.moved_names.Goals as goal

pub returns-clause-all : goal.returns-clause-all
returns-clause-all c = λ m.
    all_listed c.args.old.now c.args.new.now is_name Moved c.walk.new.hearer.items c.in_ok-walk.ensures m refl
    (λ n same. cc)

pub returns-clause-order : goal.returns-clause-order
returns-clause-order c =
    in_order c.args.old.now c.args.new.now is_name Moved c.walk.new.hearer.items c.in_ok-walk.ensures
