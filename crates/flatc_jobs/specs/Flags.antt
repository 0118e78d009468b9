-- The flags of a line, as the calls take them.
use Rattle.std.specs.Prelude.{false}
use Rattle.flatc_cli.specs.Requests.{usual_form}
use Rattle.flatc_cli.specs.declared.request.Form.{Form}
use Rattle.flatc_cli.specs.declared.request.Verb.{Verb}
use Rattle.flatc_cli.specs.declared.request.Verb.TheVariants.{Binary, Json, Check}
use Rattle.flatc_cli.specs.declared.request.Inspection.{Inspection}
use Rattle.flatc_cli.specs.declared.request.Inspection.TheVariants.{Bytes, Header}
use Rattle.flatc_jobs.specs.declared.flags.Flags.{Flags}

-- the flags of a verb, over buffers and JSON texts of a form
abbrev pub flags_of : Verb → Form → Flags
flags_of (Binary unknown) form =
    record { unknown_json = unknown; raw_binary = false; defaults_json = false; form = form }
flags_of (Json raw defaults) form =
    record { unknown_json = false; raw_binary = raw; defaults_json = defaults; form = form }
flags_of (Check raw) form = record { unknown_json = false; raw_binary = raw; defaults_json = false; form = form }

-- an inspection reads a buffer as a check does
abbrev pub inspected_flags : Inspection → Flags
inspected_flags (Bytes schema bin raw prefixed) =
    flags_of (Check raw) (record { size_prefixed = prefixed; compact = false })
inspected_flags (Header bin) = flags_of (Check false) usual_form
