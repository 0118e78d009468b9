-- What the jobs of a line find, in the words of the calls.
use Rattle.std.specs.Prelude.{ℕ, ◌++◌, ◌∷◌, [], Bool, true, false, List, codes}
use Rattle.fb_layout.specs.Laid.{LaidSchema}
use Rattle.fb_value.specs.Datum.{Datum}
use Rattle.fb_value.specs.Holds.{HoldsFramed, RefusesFramed}
use Rattle.fb_value.specs.Num.{Bytes}
use Rattle.fb_faults.specs.declared.faults.ToolFault.{ToolFault}
use Rattle.fb_faults.specs.declared.faults.ToolFault.TheVariants.{Read}
use Rattle.flatc_cli.specs.declared.request.Verb.{Verb}
use Rattle.flatc_cli.specs.declared.request.Verb.TheVariants.{Check}
use Rattle.flatc_jobs.specs.declared.flags.Flags.{Flags}
use Rattle.flatc_tool.specs.Evolution.{ConformRefused, NamesRefused, TextsConform, TextsKeepNames}
use Rattle.flatc_tool.specs.Options.{usual_limits}

-- a value lies in the bytes, read with these flags
abbrev pub IsHeld : Flags → LaidSchema → Bytes → Type 0
IsHeld flags L b = (v : Datum) × HoldsFramed flags.form.size_prefixed L usual_limits flags.raw_binary b v

-- the fault of the bytes, read with these flags
abbrev pub IsRefused : Flags → LaidSchema → Bytes → ToolFault → Type 0
IsRefused flags L b (Read f) = RefusesFramed flags.form.size_prefixed L usual_limits flags.raw_binary b f
IsRefused flags L b _ = ⊥

-- the new schema text reads the data of the old one, and with `names` its JSON texts too
abbrev pub Conform : Bool → List ℕ → List ℕ → Type 0
Conform true old new = TextsKeepNames old new
Conform false old new = TextsConform old new

abbrev pub IsConformRefused : Bool → List ℕ → List ℕ → ToolFault → Type 0
IsConformRefused true old new f = NamesRefused old new f
IsConformRefused false old new f = ConformRefused old new f

-- what is printed once all inputs are done: a check says so
abbrev pub verdict_of : Verb → List ℕ
verdict_of (Check raw) = codes "ok" ++ 10 ∷ []
verdict_of verb = []

-- what is printed where a comparison, or each step of a chain, conforms
abbrev pub conforms_line : List ℕ
conforms_line = codes "conforms" ++ 10 ∷ []
