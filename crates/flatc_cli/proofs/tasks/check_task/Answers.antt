use Rattle.std.proofs.Common.{codes, refl}
use Rattle.flatc_cli.proofs.tasks.check_task.Goals as goal

pub returns-clause-task : goal.returns-clause-task
returns-clause-task c =
    c.in_ok-task_with.ensures (codes "check") (refl, c.flag_of.ensures, c.requires)
    (c.in_ok-inputs.ensures.files c.flag_of.result)
