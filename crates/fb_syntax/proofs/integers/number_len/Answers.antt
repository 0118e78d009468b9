use Rattle.std.proofs.Common.{sym, ◌∙◌}
use Rattle.std.proofs.lemmas.List.{take_rest}
use Rattle.fb_syntax.proofs.LongestTokens.{hexadecimal_len}
use Rattle.fb_syntax.proofs.integers.number_len.Goals as goal

pub returns-then-is_prefixed-clause-len : goal.returns-then-is_prefixed-clause-len
returns-then-is_prefixed-clause-len c =
    rw (c.run.ensures.run, take_rest c.args.text.now 2)
    (hexadecimal_len _ (sym c.is_prefixed.ensures.prefixed ∙ c.if-is_prefixed.true))
