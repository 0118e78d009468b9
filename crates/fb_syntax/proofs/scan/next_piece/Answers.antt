use Rattle.std.proofs.Common.{arith, sym, ◌∙◌}
use Rattle.fb_syntax.proofs.Gaps.{blank_gap}
use Rattle.fb_syntax.proofs.FirstBytes.{no_start, nowhere}
use Rattle.fb_syntax.proofs.LongestTokens.{punct_longest, word_longest}
use Rattle.fb_syntax.proofs.scan.next_piece.Goals as goal

pub returns-in_default-clause-piece : goal.returns-in_default-clause-piece
returns-in_default-clause-piece c = λ piece. nowhere _ piece (omega arith)

pub returns-then-is_blank-clause-piece : goal.returns-then-is_blank-clause-piece
returns-then-is_blank-clause-piece c = blank_gap _ (sym c.is_blank.ensures ∙ c.if-is_blank.true)

pub returns-then-is_letter-clause-piece : goal.returns-then-is_letter-clause-piece
returns-then-is_letter-clause-piece c = (
  word_longest _ _
      (sym c.is_letter.ensures ∙ c.if-is_letter.true) c.run.ensures.run,
  tt,
)

pub returns-then-is_punct-clause-piece : goal.returns-then-is_punct-clause-piece
returns-then-is_punct-clause-piece c = (punct_longest _ (sym c.is_punct.ensures ∙ c.if-is_punct.true), tt)

pub returns-else-is_sign-clause-piece : goal.returns-else-is_sign-clause-piece
returns-else-is_sign-clause-piece c = grind (arith, no_start)
