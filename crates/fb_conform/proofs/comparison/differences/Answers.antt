use Rattle.std.proofs.Common.{true, refl}
use Rattle.fb_conform.proofs.comparison.ListsHaveEachDifference.{each_listed}
use Rattle.fb_conform.proofs.comparison.differences.Goals as goal

pub returns-clause-all : goal.returns-clause-all
returns-clause-all c = λ d.
    each_listed c.args.old.now c.args.new.now (λ e. true) c.walk.new.hearer.items c.in_ok-walk.ensures d refl
