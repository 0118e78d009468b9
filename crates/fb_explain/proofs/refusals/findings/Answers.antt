use Rattle.std.proofs.Common.{map, IfOk, subst, sym}
use Rattle.fb_explain.specs.Refusals.{AreCompared}
use Rattle.fb_explain.proofs.refusals.findings.Goals as goal

pub returns-in-Breach-clause-compared : goal.returns-in-Breach-clause-compared
returns-in-Breach-clause-compared c = λ L L' old new.
    subst (λ f. IfOk c.breach_findings.result (λ list. AreCompared f L L' (map (λ g. g.fault) list.items)))
    (sym c.in-Breach.is) (c.breach_findings.ensures.all L L' old new)

pub returns-in-NameMoved-clause-compared : goal.returns-in-NameMoved-clause-compared
returns-in-NameMoved-clause-compared c = λ L L' old new.
    subst (λ f. IfOk c.moved_findings.result (λ list. AreCompared f L L' (map (λ g. g.fault) list.items)))
    (sym c.in-NameMoved.is) (c.moved_findings.ensures.all L L' old new)
