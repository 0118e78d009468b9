use Rattle.std.proofs.Common.{◌≡◌, map, take}
use Rattle.fb_faults.specs.declared.faults.ToolFault.TheVariants as the_faults
use Rattle.fb_explain_conform.proofs.sides.Sides.breach_findings.Given as goal

abbrev pub invariant-loop-breach : goal.invariant-loop-breach
invariant-loop-breach l = map (λ f. f.fault) l.findings.items ≡ map the_faults.Breach (take l.breach-index l.breaches)
