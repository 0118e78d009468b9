use Rattle.std.proofs.Common.{sym, ◌∙◌}
use Rattle.fb_conform.specs.declared.difference.Difference.TheVariants.{Breach as Broken}
use Rattle.fb_conform.proofs.walk.DifferencesAreReportedInOrder.{reported, passed}
use Rattle.fb_conform.proofs.walk.report_unless.Goals as goal

pub returns-then-kept : goal.returns-then-kept
returns-then-kept g c = λ A B decides before.
    passed A B g.H.DifferenceHearer.wants (Broken c.args.breach) _ (λ wanted. decides.0 c.if-kept.true) before

pub returns : goal.returns
returns g c = λ A B decides before.
    reported A B g.H.DifferenceHearer.wants _ (Broken c.args.breach) _ _ c.hear.result
    (λ kept. let bad = sym c.if-kept.false ∙ decides.1 kept in cc) c.hear.ensures.kept c.hear.ensures.ignored
    c.hear.ensures.stopped before
