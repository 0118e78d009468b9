use Rattle.std.proofs.Common.{◌++◌, ◌∷◌, [], ap, ◌∙◌}
use Rattle.fb_explain_schemas.specs.Refusals.{refusal}
use Rattle.fb_explain_schemas.proofs.Placed.{begins_alone, placed_alone}
use Rattle.fb_explain_schemas.proofs.schema_faults.schema_findings.Goals as goal

pub returns-clause-first : goal.returns-clause-first
returns-clause-first c =
    let first = c.in_ok-first_finding.field-0 in
    begins_alone (refusal c.args.which c.args.fault) first
    (c.in_ok-push.ensures.items ∙ ap (λ x. x ++ first ∷ []) c.new-findings.ensures.items)
    c.in_ok-first_finding.ensures.fault c.in_ok-add_unsupported.ensures

pub returns-clause-places : goal.returns-clause-places
returns-clause-places c =
    let first = c.in_ok-first_finding.field-0 in
    placed_alone first (c.in_ok-push.ensures.items ∙ ap (λ x. x ++ first ∷ []) c.new-findings.ensures.items)
    c.in_ok-first_finding.ensures.placed c.in_ok-add_unsupported.ensures
