use Rattle.flatc_cli.proofs.JobLines.{named_is_no_job}
use Rattle.flatc_cli.proofs.job.job_of_comparison.Goals as goal

pub returns-in-Some-clause-none : goal.returns-in-Some-clause-none
returns-in-Some-clause-none c = λ line is. named_is_no_job line _ _ c.in-Some.is is
