use Rattle.std.proofs.Common.{arith}
use Rattle.std.proofs.lemmas.List.{take_rest}
use Rattle.std.proofs.lemmas.Grind.{common_steps}
use Rattle.fb_syntax.proofs.LongestTokens.{integer_longest, no_integer}
use Rattle.fb_syntax.proofs.BadTokens.{no_integer_fault, great_integer_fault}
use Rattle.fb_syntax.proofs.scan.integer.Goals as goal

pub returns-then-len-eq0-clause-piece : goal.returns-then-len-eq0-clause-piece
returns-then-len-eq0-clause-piece c =
    no_integer _ _ _ c.requires c.sign_len-sign.ensures.len (rw take_rest at c.number_len-len.ensures.len)
    (λ some. absurd (omega arith))

pub returns-in-Some-clause-piece : goal.returns-in-Some-clause-piece
returns-in-Some-clause-piece c = (
  integer_longest _ _ _ c.requires c.sign_len-sign.ensures.len (rw take_rest at c.number_len-len.ensures.len)
      (omega arith),
  grind (arith, common_steps, c.in-Some.ensures, c.magnitude.type_inv),
)

pub returns-in-None-clause-piece : goal.returns-in-None-clause-piece
returns-in-None-clause-piece c =
    no_integer _ _ _ c.requires c.sign_len-sign.ensures.len (rw take_rest at c.number_len-len.ensures.len)
    (λ some. omega (arith, c.in-None.ensures))

pub returns-then-len-eq0-clause-fault : goal.returns-then-len-eq0-clause-fault
returns-then-len-eq0-clause-fault c =
    no_integer_fault _ _ _ c.requires c.sign_len-sign.ensures.len
    (rw (take_rest, c.if-len-eq0.true) at c.number_len-len.ensures.len)

pub returns-in-None-clause-fault : goal.returns-in-None-clause-fault
returns-in-None-clause-fault c =
    great_integer_fault _ _ _ _ c.requires c.sign_len-sign.ensures.len
    (rw take_rest at c.number_len-len.ensures.len) (omega arith)
