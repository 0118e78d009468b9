-- The errors of lines that ask for nothing.
use Rattle.std.specs.Prelude.{◌≢◌}
use Rattle.clap.specs.declared.error.kind.ErrorKind.{ErrorKind}
use Rattle.clap.specs.declared.error.kind.ErrorKind.TheVariants.{DisplayHelp, DisplayVersion}

-- the error is a mistake in the words or that memory ran out: neither help nor the version was asked for
abbrev pub IsRefusal : ErrorKind → Type 0
IsRefusal kind = (kind ≢ DisplayHelp) × (kind ≢ DisplayVersion)
