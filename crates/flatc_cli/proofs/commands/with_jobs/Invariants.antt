use Rattle.std.proofs.Common.{take}
use Rattle.clap.specs.Words.{App}
use Rattle.flatc_cli.specs.Arguments.{apps_in, with_apps}
use Rattle.flatc_cli.specs.Commands.{HasApp}
use Rattle.flatc_cli.proofs.commands.with_jobs.Given as goal

abbrev pub invariant-loop-job : goal.invariant-loop-job
invariant-loop-job l = (above : App) → HasApp above l.fn.command
    → HasApp (with_apps above (apps_in (take l.job-index l.jobs))) l.command
