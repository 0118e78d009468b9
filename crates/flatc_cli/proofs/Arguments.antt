-- A command with the first arguments of a list, and with one more.
use Rattle.std.proofs.Common.{◌≡◌, ◌∙◌, ◌++◌, ◌∷◌, ◌<◌, ◌+◌, [], List, ℕ, false, ap, refl, append_assoc, map, take}
use Rattle.std.proofs.Common.{length, get_or}
use Rattle.std.proofs.lemmas.List.{take_more, map-append}
use Rattle.std.specs.Borrow.{Bor}
use Rattle.clap.specs.Words.{App, AddsArg, AddsSubcommand, Rule, app_of, rule_of, with_rule, with_subcommand}
use Rattle.clap.specs.declared.builder.arg.Arg.{Arg}
use Rattle.clap.specs.declared.builder.command.Command.{Command}
use Rattle.flatc_cli.specs.declared.commands.Argument.{Argument}
use Rattle.flatc_cli.specs.declared.commands.JobWords.{JobWords}
use Rattle.flatc_cli.specs.Arguments.{rule_in, with_rules, app_in, apps_in, with_apps}
use Rattle.flatc_cli.specs.Commands.{HasApp}

one_rule_more : (arguments : List Argument) (i : ℕ) (d : Argument) (arg : Arg) → i < length arguments
    → rule_of arg ≡ rule_in (get_or arguments i d)
    → map rule_in (take i arguments) ++ rule_of arg ∷ [] ≡ map rule_in (take (i + 1) arguments)
one_rule_more arguments i d arg lt same =
    rw (take_more arguments i d lt, map-append rule_in (take i arguments) (get_or arguments i d ∷ []), same) refl

pub one_more : (above : App) (arguments : List Argument) (i : ℕ) (d : Argument) (old new : Command) (arg : Arg)
    → i < length arguments → rule_of arg ≡ rule_in (get_or arguments i d) → arg.global ≡ false
    → AddsArg old arg new → HasApp (with_rules above (map rule_in (take i arguments))) old
    → HasApp (with_rules above (map rule_in (take (i + 1) arguments))) new
one_more above arguments i d old new arg lt same local added has =
    let rules = map rule_in (take i arguments) in
    let all : (above.top.rules ++ rules) ++ rule_of arg ∷ [] ≡ above.top.rules ++ map rule_in (take (i + 1) arguments)
    = append_assoc above.top.rules rules (rule_of arg ∷ []) ∙ ap (λ (r : List Rule). above.top.rules ++ r)
    (one_rule_more arguments i d arg lt same) in (
      added.shape local ∙ (ap (λ (a : App). with_rule a (rule_of arg)) has.0
          ∙ ap (λ (r : List Rule). record above { top = record above.top { rules = r } }) all),
      rw (added.globals, has.1, local) refl,
    )

with_last : (above : App) (jobs : List App) (job : App)
    → with_subcommand (with_apps above jobs) job.top ≡ with_apps above (jobs ++ job ∷ [])
with_last above [] job = refl
with_last above (first ∷ jobs) job = with_last (with_subcommand above first.top) jobs job

one_app_more : (jobs : List (Bor JobWords)) (i : ℕ) (d : Bor JobWords) → i < length jobs
    → apps_in (take i jobs) ++ app_in (get_or jobs i d).now ∷ [] ≡ apps_in (take (i + 1) jobs)
one_app_more jobs i d lt =
    rw (take_more jobs i d lt, map-append (λ (b : Bor JobWords). app_in b.now) (take i jobs) (get_or jobs i d ∷ []))
    refl

pub one_job_more : (above : App) (jobs : List (Bor JobWords)) (i : ℕ) (d : Bor JobWords) (old new job : Command)
    → i < length jobs → HasApp (app_in (get_or jobs i d).now) job → AddsSubcommand old job new
    → HasApp (with_apps above (apps_in (take i jobs))) old
    → HasApp (with_apps above (apps_in (take (i + 1) jobs))) new
one_job_more above jobs i d old new job lt is added has =
    let apps = apps_in (take i jobs) in (
      added.shape is.1 ∙ (ap (λ (a : App). with_subcommand a (app_of job).top) has.0
          ∙ (ap (λ (a : App). with_subcommand (with_apps above apps) a.top) is.0
          ∙ (with_last above apps (app_in (get_or jobs i d).now) ∙ ap (with_apps above) (one_app_more jobs i d lt)))),
      rw (added.globals, has.1, is.1) refl,
    )
