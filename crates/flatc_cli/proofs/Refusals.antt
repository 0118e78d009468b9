-- What is no help and no version; and the matches of a subcommand as one pair.
use Rattle.std.proofs.Common.{◌≡◌, Option, Some, None, List, Box, option_map, rules, subst, sym}
use Rattle.std.specs.Box.{box_value}
use Rattle.clap.specs.Words.{Row, Text, subcommand_rows}
use Rattle.clap.specs.declared.error.kind.ErrorKind.{ErrorKind}
use Rattle.clap.specs.declared.error.kind.ErrorKind.TheVariants.{OutOfMemory}
use Rattle.clap.specs.declared.parser.matches.SubCommand.{SubCommand}
use Rattle.clap.specs.declared.parser.matches.ArgMatches.TheViews.{out-SubCommand}
use Rattle.flatc_cli.specs.Misuses.{IsRefusal}

memory_is_refusal : IsRefusal OutOfMemory
memory_is_refusal = search rules

pub refuses_memory : (kind : ErrorKind) → kind ≡ OutOfMemory → IsRefusal kind
refuses_memory kind memory = subst IsRefusal (sym memory) memory_is_refusal

module _ {Z : Type 0} where
  pub one_pair : (sub : Option (Box SubCommand Z)) (name : Text) (rows : List Row)
      → Some name ≡ option_map (λ b. (out-SubCommand (box_value b)).name.now) sub
      → Some rows ≡ option_map (λ p. p.1) (subcommand_rows sub)
      → subcommand_rows sub ≡ Some (name, rows)
  one_pair None name rows named has = search (rules, named)
  one_pair (Some b) name rows named has = search (rules, named, has)
