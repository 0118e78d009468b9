use Rattle.std.proofs.Common.{Some, ap, codes}
use Rattle.clap.specs.Words.{Rule}
use Rattle.clap.specs.declared.builder.action.ArgAction.TheVariants.{Append}
use Rattle.flatc_cli.proofs.commands.arg_of.Goals as goal

pub returns-in-Flag-clause-rule : goal.returns-in-Flag-clause-rule
returns-in-Flag-clause-rule c = rw c.in-Flag.is c.flag.ensures.rule

pub returns-in-Directory-clause-rule : goal.returns-in-Directory-clause-rule
returns-in-Directory-clause-rule c =
    rw (c.in-Directory.is, c.help.ensures, c.short.ensures, c.long.ensures)
    (ap (λ (r : Rule). record r { long = Some (codes "out-dir"); short = Some 111 }) c.new.ensures.rule)

pub returns-in-Path-clause-rule : goal.returns-in-Path-clause-rule
returns-in-Path-clause-rule c =
    rw (c.in-Path.is, c.help-in-Path.ensures, c.required.ensures)
    (ap (λ (r : Rule). record r { required = c.in-Path.required }) c.new-in-Path.ensures.rule)

pub returns-in-Paths-clause-rule : goal.returns-in-Paths-clause-rule
returns-in-Paths-clause-rule c =
    rw (c.in-Paths.is, c.help-in-Paths.ensures, c.action.ensures, c.required-in-Paths.ensures)
    (ap (λ (r : Rule). record r { required = c.in-Paths.required; action = Some Append }) c.new-in-Paths.ensures.rule)
