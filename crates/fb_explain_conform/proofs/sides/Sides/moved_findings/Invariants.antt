use Rattle.std.proofs.Common.{◌≡◌, map, take}
use Rattle.fb_faults.specs.declared.faults.ToolFault.TheVariants as the_faults
use Rattle.fb_explain_conform.proofs.sides.Sides.moved_findings.Given as goal

abbrev pub invariant-loop-moved : goal.invariant-loop-moved
invariant-loop-moved l = map (λ f. f.fault) l.findings.items ≡ map the_faults.NameMoved (take l.moved-index l.names)
