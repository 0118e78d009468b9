use Rattle.std.proofs.lemmas.List.{take_all}
use Rattle.flatc_cli.proofs.Arguments.{one_job_more}
use Rattle.flatc_cli.proofs.commands.with_jobs.Goals as goal

pub loop-job-preserved : goal.loop-job-preserved
loop-job-preserved c = λ above has.
    one_job_more above _ _ _ _ _ _ c.loop-job-test.true c.in_ok-job_command.ensures c.in_ok-command.ensures
    (c.loop-job.invariant above has)

pub returns : goal.returns
returns c = λ above has.
    rw (take_all c.loop-job.job-index c.args.jobs.now c.loop-job-test.false) at (c.loop-job.invariant above has)
