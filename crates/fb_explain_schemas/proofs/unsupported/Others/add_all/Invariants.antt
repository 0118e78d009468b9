use Rattle.fb_explain_schemas.specs.Refusals.{AddsPlaced}
use Rattle.fb_explain_schemas.proofs.unsupported.Others.add_all.Given as goal

abbrev pub invariant-loop : goal.invariant-loop
invariant-loop l = AddsPlaced l.self.source.bytes.now l.fn.findings.items l.findings.items
