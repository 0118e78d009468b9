use Rattle.std.proofs.lemmas.List.{take_all}
use Rattle.flatc_cli.proofs.Arguments.{one_more}
use Rattle.flatc_cli.proofs.commands.with_arguments.Goals as goal

pub loop-argument-preserved : goal.loop-argument-preserved
loop-argument-preserved c = λ above has.
    one_more above _ _ _ _ _ c.arg_of.result c.loop-argument-test.true c.arg_of.ensures.rule c.arg_of.ensures.local
    c.in_ok-command.ensures (c.loop-argument.invariant above has)

pub returns : goal.returns
returns c = λ above has.
    rw (take_all c.loop-argument.argument-index c.args.arguments.now c.loop-argument-test.false) at
    (c.loop-argument.invariant above has)
