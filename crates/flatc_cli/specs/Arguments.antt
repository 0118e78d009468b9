-- The commands of jobs and their arguments, as clap sees them.
use Rattle.std.specs.Prelude.{List, [], ◌∷◌, ◌++◌, map}
use Rattle.std.specs.Borrow.{Bor}
use Rattle.clap.specs.Words.{App, Rule, new_app, with_subcommand}
use Rattle.flatc_cli.specs.declared.commands.Argument.{Argument}
use Rattle.flatc_cli.specs.declared.commands.Argument.TheVariants.{Flag, Directory, Value, Path, Paths}
use Rattle.flatc_cli.specs.declared.commands.JobWords.{JobWords}
use Rattle.flatc_cli.specs.Commands.{flag_rule, dir_rule, value_rule, path_rule, paths_rule}

abbrev pub rule_in : Argument → Rule
rule_in (Flag name help) = flag_rule name.now
rule_in (Directory help) = dir_rule
rule_in (Value id long help) = value_rule id.now long.now
rule_in (Path id required help) = path_rule id.now required
rule_in (Paths id required help) = paths_rule id.now required

abbrev pub with_rules : App → List Rule → App
with_rules a rules = record a { top = record a.top { rules = a.top.rules ++ rules } }

abbrev pub app_in : JobWords → App
app_in job = with_rules (new_app job.name.now) (map rule_in job.arguments.now)

abbrev pub apps_in : List (Bor JobWords) → List App
apps_in jobs = map (λ job. app_in job.now) jobs

abbrev pub with_apps : App → List App → App
with_apps a [] = a
with_apps a (job ∷ jobs) = with_apps (with_subcommand a job.top) jobs
