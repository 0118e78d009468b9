use Rattle.std.proofs.Common.{rules}
use Rattle.flatc_cli.specs.Requests.{format_named}
use Rattle.flatc_cli.proofs.request.ErrorFormat.named.Goals as goal

pub returns-in-line : goal.returns-in-line
unfolding format_named
returns-in-line c = search rules

pub returns-in-human : goal.returns-in-human
unfolding format_named
returns-in-human c = search rules

pub returns-in-short : goal.returns-in-short
unfolding format_named
returns-in-short c = search rules

pub returns-in-json : goal.returns-in-json
unfolding format_named
returns-in-json c = search rules

pub returns-in_default : goal.returns-in_default
unfolding format_named
returns-in_default c = search rules
