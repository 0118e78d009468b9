use Rattle.std.proofs.Common.{map, string_bytes}
use Rattle.std.proofs.lemmas.Result.{err_from_is_err_and}
use Rattle.clap.specs.Words.{subcommand_of}
use Rattle.flatc_cli.specs.Commands.{flatc_app}
use Rattle.flatc_cli.proofs.JobLines.{job_is_a_line}
use Rattle.flatc_cli.proofs.job.job_of.Goals as goal

pub returns-in_err-request_of-clause-memory : goal.returns-in_err-request_of-clause-memory
returns-in_err-request_of-clause-memory c =
    let p = err_from_is_err_and c.from_residual.result c.from_residual.ensures.1 in
    rw (p.1, p.2) (λ taken line. c.in_err-request_of.ensures.memory taken
    (job_is_a_line (subcommand_of flatc_app (map string_bytes c.args.words.now)) line))
