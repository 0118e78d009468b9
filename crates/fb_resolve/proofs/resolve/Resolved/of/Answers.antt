use Rattle.std.proofs.Common.{rules}
use Rattle.fb_resolve.proofs.resolve.Resolved.of.Goals as goal

pub meaning_of_root-requires-clause-root : goal.meaning_of_root-requires-clause-root
meaning_of_root-requires-clause-root c = λ r is. c.outline.invariant.1 r (grind (rules, is))
