use Rattle.clap.specs.Words.{new_app}
use Rattle.flatc_cli.specs.Commands.{HasApp}
use Rattle.flatc_cli.proofs.commands.job_command.Goals as goal
use Rattle.flatc_cli.proofs.commands.job_command.Goals.{in-Some, in_default, in-Some-notes, in_default-notes}

pub returns : goal.returns
returns c =
    let app = new_app c.args.job.now.name.now in
    let plain : HasApp app c.about-command.result =
    rw c.about-command.ensures (c.new.ensures.app, c.new.ensures.local) in
    let used : HasApp app c.match-job.command = elim c.match-job.branch [
      | in-Some w ↦ rw (w.command-is, w.override_usage-command.ensures) plain
      | in_default w ↦ rw w.command-is plain
    ] in
    let noted : HasApp app c.match-job-2.command = elim c.match-job-2.branch [
      | in-Some-notes w ↦ rw (w.command-is, w.after_help-command.ensures) used
      | in_default-notes w ↦ rw w.command-is used
    ] in
    c.with_arguments.ensures app noted
