use Rattle.std.proofs.lemmas.Bool.{false≢true}
use Rattle.fb_explain_schemas.proofs.layouts.layout_of.Goals as goal

-- the text is refused, and not for want of memory
pub returns-in-None-clause-refused : goal.returns-in-None-clause-refused
returns-in-None-clause-refused c = λ _ L accepted.
    c.in-Err.ensures.exact (λ want. absurd (false≢true (c.in-None.ensures.want.1 want))) L accepted
