use Rattle.fb_explain_conform.proofs.comparisons.Known.of.Goals as goal

-- the text has no layout
pub returns-in-None-clause-refused : goal.returns-in-None-clause-refused
returns-in-None-clause-refused c = λ _ L accepted. c.in_ok-layout.ensures.refused c.in-None.is L accepted
