use Rattle.flatc_cli.specs.Commands.{plain_app}
use Rattle.flatc_cli.proofs.commands.flatc_command.Goals as goal

pub returns : goal.returns
returns c = c.with_jobs.ensures plain_app c.in_ok-command.ensures
