use Rattle.std.proofs.Common.{arith}
use Rattle.std.proofs.lemmas.Grind.{common_steps}
use Rattle.fb_syntax.proofs.LongestTokens.{quoted_longest}
use Rattle.fb_syntax.proofs.scan.quoted.Goals as goal

pub returns-in-Some-eq34-clause-piece : goal.returns-in-Some-eq34-clause-piece
returns-in-Some-eq34-clause-piece c = (
  quoted_longest _ _ c.run-len.ensures.run
      (grind (arith, common_steps, c.get.ensures, c.in-Some-eq34.ensures)),
  tt,
)
