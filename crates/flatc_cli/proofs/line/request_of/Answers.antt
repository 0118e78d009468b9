use Rattle.std.proofs.Common.{◌≡◌, List, ap, refl, ◌∙◌, map, string_bytes}
use Rattle.std.proofs.lemmas.Result.{IfErr-weaker, err_from_is_err_and}
use Rattle.clap.specs.Words.{kind_of, App, HasMatchesOf, Text, takes, subcommand_of, subcommand_rows_of}
use Rattle.clap.specs.declared.parser.matches.ArgMatches.{ArgMatches}
use Rattle.flatc_cli.specs.Commands.{flatc_app}
use Rattle.flatc_cli.specs.Misuses.{IsRefusal}
use Rattle.flatc_cli.proofs.Refusals.{refuses_memory}
use Rattle.flatc_cli.proofs.line.request_of.Goals as goal

pub returns-in_err-matches-clause-memory : goal.returns-in_err-matches-clause-memory
returns-in_err-matches-clause-memory c =
    let p = err_from_is_err_and c.from_residual-in_err-matches.result c.from_residual-in_err-matches.ensures.1 in
    rw (p.1, p.2) (λ taken line. c.in_err-matches.ensures.passes
    (ap (λ (a : App). takes a (map string_bytes c.args.words.now)) c.in_ok-flatc_command.ensures.0 ∙ taken))

pub returns-in_err-matches-clause-refusal : goal.returns-in_err-matches-clause-refusal
returns-in_err-matches-clause-refusal c =
    let p = err_from_is_err_and c.from_residual-in_err-matches.result c.from_residual-in_err-matches.ensures.1 in
    rw (p.1, p.2) (λ taken. refuses_memory _ (c.in_err-matches.ensures.passes
    (ap (λ (a : App). takes a (map string_bytes c.args.words.now)) c.in_ok-flatc_command.ensures.0 ∙ taken)))

-- the subcommand and its rows are those of the program's own command line
own_rows : {a : App} (words : List Text) (m : ArgMatches) → a ≡ flatc_app → HasMatchesOf a words m
    → subcommand_rows_of m ≡ subcommand_of flatc_app words
own_rows words m same matches = ((rw same at matches) refl).1

pub returns-clause-request : goal.returns-clause-request
returns-clause-request c =
    rw (own_rows _ _ c.in_ok-flatc_command.ensures.0 c.in_ok-matches.ensures.matches) at c.matched_request.ensures.request

pub returns-clause-line : goal.returns-clause-line
returns-clause-line c =
    rw (own_rows _ _ c.in_ok-flatc_command.ensures.0 c.in_ok-matches.ensures.matches) at c.matched_request.ensures.line

pub returns-clause-memory : goal.returns-clause-memory
returns-clause-memory c =
    IfErr-weaker c.matched_request.result _ _ (λ e memory taken line. memory line)
    (rw (own_rows _ _ c.in_ok-flatc_command.ensures.0 c.in_ok-matches.ensures.matches) at c.matched_request.ensures.memory)

pub returns-clause-refusal : goal.returns-clause-refusal
returns-clause-refusal c =
    IfErr-weaker c.matched_request.result (λ e. IsRefusal (kind_of e)) _ (λ e is taken. is)
    c.matched_request.ensures.refusal
