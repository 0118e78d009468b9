use Rattle.std.proofs.Common.{ap, sym, ◌∙◌}
use Rattle.clap.specs.Words.{found_of, rows_of}
use Rattle.clap.specs.declared.parser.matches.ArgMatches.TheViews.{out-ArgMatches}
use Rattle.flatc_cli.specs.Lines.{is_line}
use Rattle.flatc_cli.proofs.Refusals.{one_pair}
use Rattle.flatc_cli.proofs.line.matched_request.Goals as goal

pub returns-in-Err-clause-memory : goal.returns-in-Err-clause-memory
returns-in-Err-clause-memory c = λ line.
    let pair = one_pair (out-ArgMatches c.args.matches.now).subcommand c.in-Some.job.now
    (rows_of (found_of c.in-Some.found.now))
    c.in-Some.ensures.name c.in-Some.ensures.rows in
    c.misuse_error-in-Err.ensures.memory (c.in-Err.ensures.refusal (sym (ap is_line pair) ∙ line))

pub returns-in-Ok-clause-request : goal.returns-in-Ok-clause-request
returns-in-Ok-clause-request c =
    let pair = one_pair (out-ArgMatches c.args.matches.now).subcommand c.in-Some.job.now
    (rows_of (found_of c.in-Some.found.now))
    c.in-Some.ensures.name c.in-Some.ensures.rows in
    rw pair c.in-Ok.ensures.request

pub returns-in-Ok-clause-line : goal.returns-in-Ok-clause-line
returns-in-Ok-clause-line c =
    let pair = one_pair (out-ArgMatches c.args.matches.now).subcommand c.in-Some.job.now
    (rows_of (found_of c.in-Some.found.now))
    c.in-Some.ensures.name c.in-Some.ensures.rows in
    rw pair c.in-Ok.ensures.line
