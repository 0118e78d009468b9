use Rattle.flatc_cli.proofs.JobLines.{formatted_is_no_task, formatted_is_no_comparison}
use Rattle.flatc_cli.proofs.JobLines.{chain_is_no_job, schemas_are_no_job, inspection_is_no_job}
use Rattle.flatc_cli.proofs.JobLines.{description_is_no_job, number_is_no_job}
use Rattle.flatc_cli.proofs.job.job_of_request.Goals as goal

pub returns-in-Do-default-Some-clause-none : goal.returns-in-Do-default-Some-clause-none
returns-in-Do-default-Some-clause-none c = λ line is.
    formatted_is_no_task line _ _ (rw (c.in-Do-default-Some.is, c.in-Do-default-Some.field-1-is) at is)

pub returns-in-Conform-default-Some-clause-none : goal.returns-in-Conform-default-Some-clause-none
returns-in-Conform-default-Some-clause-none c = λ line is.
    formatted_is_no_comparison line _ _ (rw (c.in-Conform-default-Some.is, c.in-Conform-default-Some.field-1-is) at is)

pub returns-in-ConformChain-clause-none : goal.returns-in-ConformChain-clause-none
returns-in-ConformChain-clause-none c = λ line is. chain_is_no_job line _ _ (rw c.in-ConformChain.is at is)

pub returns-in-CheckSchemas-clause-none : goal.returns-in-CheckSchemas-clause-none
returns-in-CheckSchemas-clause-none c = λ line is. schemas_are_no_job line _ _ (rw c.in-CheckSchemas.is at is)

pub returns-in-Inspect-clause-none : goal.returns-in-Inspect-clause-none
returns-in-Inspect-clause-none c = λ line is. inspection_is_no_job line _ _ (rw c.in-Inspect.is at is)

pub returns-in-Describe-clause-none : goal.returns-in-Describe-clause-none
returns-in-Describe-clause-none c = λ line is. description_is_no_job line _ _ (rw c.in-Describe.is at is)

pub returns-in-Explain-clause-none : goal.returns-in-Explain-clause-none
returns-in-Explain-clause-none c = λ line is. number_is_no_job line _ (rw c.in-Explain.is at is)
