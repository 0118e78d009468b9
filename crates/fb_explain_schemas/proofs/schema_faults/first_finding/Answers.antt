use Rattle.std.proofs.Common.{◌≡◌, IfOk, refl, sym, subst, ◌∙◌}
use Rattle.fb_explain_schemas.proofs.Placed.{placed_at, placed_nowhere, want_has_no_offset, nowhere_has_no_line}
use Rattle.fb_explain_schemas.proofs.schema_faults.first_finding.Goals as goal

pub returns-in-Some-clause-placed : goal.returns-in-Some-clause-placed
returns-in-Some-clause-placed c =
    let text = c.args.source.bytes.now in
    placed_nowhere c.args.which c.args.fault text c.of_memory.result
    (want_has_no_offset c.args.fault (c.in-Some.ensures.want.0 refl))
    (subst (λ x. IfOk c.of_memory.result (λ f. f.fault ≡ x)) c.refusal.ensures c.of_memory.ensures.fault)
    (nowhere_has_no_line text c.of_memory.result c.of_memory.ensures.nowhere)

pub returns-in-Some-offset-clause-placed : goal.returns-in-Some-offset-clause-placed
returns-in-Some-offset-clause-placed c =
    placed_at c.args.which c.args.fault c.args.source.bytes.now c.in-Some-offset.offset c.finding_at.result
    (sym c.offset.ensures ∙ c.in-Some-offset.is) c.finding_at.ensures.fault c.finding_at.ensures.place
    c.finding_at.ensures.line

pub returns-in-None-clause-placed : goal.returns-in-None-clause-placed
returns-in-None-clause-placed c =
    placed_nowhere c.args.which c.args.fault c.args.source.bytes.now c.layout_finding.result
    (sym c.offset.ensures ∙ c.in-None.is)
    (subst (λ x. IfOk c.layout_finding.result (λ f. f.fault ≡ x)) c.refusal-in-None.ensures
    c.layout_finding.ensures.fault)
    c.layout_finding.ensures.line
