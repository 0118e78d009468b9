use Rattle.std.proofs.Common.{rules, arith}
use Rattle.fb_resolve.proofs.PathsKept.{first_use}
use Rattle.fb_resolve.proofs.enum_values.EnumValues.of.Goals as goal

pub invariant_of-result : goal.invariant_of-result
unfolding Rattle.fb_resolve.specs.EnumValues.number_named
invariant_of-result c = (λ name. grind (arith, rules), grind rules)

pub returns : goal.returns
returns c = λ types scope.
    let used = c.requires.0 in
    let uses = c.args.uses.now in
    let name = c.in-Enum.read.underlying.bytes in
    let all = rw c.in-Enum.is at c.requires.1 in
    let base = c.underlying-base.ensures used types scope name (first_use used uses name _ all) in
    grind (rules, base)
