use Rattle.std.proofs.Common.{map, take}
use Rattle.clap.specs.Words.{App}
use Rattle.flatc_cli.specs.Arguments.{rule_in, with_rules}
use Rattle.flatc_cli.specs.Commands.{HasApp}
use Rattle.flatc_cli.proofs.commands.with_arguments.Given as goal

abbrev pub invariant-loop-argument : goal.invariant-loop-argument
invariant-loop-argument l = (above : App) → HasApp above l.fn.command
    → HasApp (with_rules above (map rule_in (take l.argument-index l.arguments))) l.command
