use Rattle.fb_explain_conform.proofs.AllAreListed.{none_unless_some}
use Rattle.fb_explain_conform.proofs.comparisons.Compared.of.Goals as goal

-- the old text has no layout
pub returns-in_default-clause-refused : goal.returns-in_default-clause-refused
returns-in_default-clause-refused c = λ _ L L' old new.
    c.in_ok-old.ensures.refused (none_unless_some c.in_ok-old.field-0 c.in_default.not-Some) L old

-- the new text has none
pub returns-clause-refused : goal.returns-clause-refused
returns-clause-refused c = λ _ L L' old new. c.in_ok-new.ensures.refused c.in-None.is L' new
