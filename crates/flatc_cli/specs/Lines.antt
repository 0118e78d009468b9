-- What the matches of a command line ask for.
use Rattle.std.specs.Prelude.{◌≡◌, ◌==◌, ◌&&◌, ◌||◌, ◌≤◌, ◌++◌, ⊤, Bool, true, false, not, List, [], ◌∷◌, Option}
use Rattle.std.specs.Prelude.{Some, None}
use Rattle.std.specs.Prelude.{Vec, codes, String, string_bytes, length, map, option_map, take, unwrap_or, is_some}
use Rattle.std.specs.Prelude.{if◌then◌else◌}
use Rattle.std.specs.Option.{option_map_or}
use Rattle.std.specs.Str.{bytes_eq}
use Rattle.std.specs.declared.alloc.Global.{Global}
use Rattle.clap.specs.Words.{Row, Text, all_of, first_of}
use Rattle.flatc_files.specs.StandardPaths.{is_read_once}
use Rattle.flatc_cli.specs.Requests.{input_paths, output_paths, format_named}
use Rattle.flatc_cli.specs.declared.request.Verb.{Verb}
use Rattle.flatc_cli.specs.declared.request.Verb.TheVariants.{Binary, Json, Check}
use Rattle.flatc_cli.specs.declared.request.Inputs.{Inputs}
use Rattle.flatc_cli.specs.declared.request.Inputs.TheVariants.{One, Each, Stream}
use Rattle.flatc_cli.specs.declared.request.Output.{Output}
use Rattle.flatc_cli.specs.declared.request.Output.TheVariants.{Standard, File, Directory}
use Rattle.flatc_cli.specs.declared.request.Form.{Form}
use Rattle.flatc_cli.specs.declared.request.Task.{Task}
use Rattle.flatc_cli.specs.declared.request.Comparison.{Comparison}
use Rattle.flatc_cli.specs.declared.request.Chain.{Chain}
use Rattle.flatc_cli.specs.declared.request.Inspection.{Inspection}
use Rattle.flatc_cli.specs.declared.request.Inspection.TheVariants.{Bytes, Header}
use Rattle.flatc_cli.specs.declared.request.ErrorFormat.{ErrorFormat}
use Rattle.flatc_cli.specs.declared.request.ErrorFormat.TheVariants.{Line, Human}
use Rattle.flatc_cli.specs.declared.request.Request.{Request}
use Rattle.flatc_cli.specs.declared.request.Request.TheVariants.{Do, Conform, ConformChain, CheckSchemas}
use Rattle.flatc_cli.specs.declared.request.Request.TheVariants.{Inspect, Describe, Explain}

-- ---- what the rows have

-- the flag was written
abbrev pub is_set : Text → List Row → Bool
is_set name rows = option_map_or (λ t. bytes_eq t (codes "true")) (first_of name rows) false

-- the paths of this id, in the order of the words
abbrev pub paths_in : Text → List Row → List Text
paths_in id rows = unwrap_or (all_of id rows) []

-- the path is the first value of this id
abbrev pub IsPath : Text → List Row → String Global → Type 0
IsPath id rows path = first_of id rows ≡ Some (string_bytes path)

abbrev pub is_streamed : List Row → Bool
is_streamed rows = is_set (codes "lines") rows

-- ---- what they ask for

abbrev pub IsVerb : Text → List Row → Verb → Type 0
IsVerb name rows (Binary unknown) = (name ≡ codes "binary") × (unknown ≡ is_set (codes "unknown-json") rows)
IsVerb name rows (Json raw defaults) = (name ≡ codes "json")
    × (raw ≡ is_set (codes "raw-binary") rows) × (defaults ≡ is_set (codes "defaults-json") rows)
IsVerb name rows (Check raw) = (name ≡ codes "check") × (raw ≡ is_set (codes "raw-binary") rows)
    × (is_set (codes "schemas") rows ≡ false)

-- the id of the paths after the schema's
abbrev pub files_id : Verb → Text
files_id (Binary unknown) = codes "JSON"
files_id (Json raw defaults) = codes "BIN"
files_id (Check raw) = codes "BIN"

-- one file, read as a whole or as a stream
abbrev pub IsOneFile : Inputs → Type 0
IsOneFile (One path) = ⊤
IsOneFile (Stream path keep_going) = ⊤
IsOneFile _ = ⊥

-- the inputs that a verb may have with an output, as its usage says
abbrev pub Fit : Verb → Inputs → Output → Type 0
Fit (Binary unknown) inputs (File out) = IsOneFile inputs
Fit (Binary unknown) (Each jsons) (Directory dir) = ⊤
Fit (Json raw defaults) inputs Standard = IsOneFile inputs
Fit (Json raw defaults) (Each bins) (Directory dir) = ⊤
Fit (Check raw) (Each bins) Standard = 2 ≤ length bins.items
Fit (Check raw) inputs Standard = ⊤
Fit _ _ _ = ⊥

-- a directory is asked for exactly where the line has one, which no line `check` has
abbrev pub IsDirectory : List Row → Verb → Output → Type 0
IsDirectory rows (Check raw) output = ⊤
IsDirectory rows verb (Directory dir) = IsPath (codes "DIR") rows dir
IsDirectory rows verb output = first_of (codes "DIR") rows ≡ None

-- `--lines` asks for a stream
abbrev pub IsStreamed : List Row → Inputs → Type 0
IsStreamed rows (Stream path keep_going) = (is_streamed rows ≡ true) × (keep_going ≡ is_set (codes "keep-going") rows)
IsStreamed rows inputs = is_streamed rows ≡ false

-- the paths after the schema's are the inputs in their order, and then OUT
pub record AreFiles (rows : List Row) (verb : Verb) (inputs : Inputs) (output : Output) : Type 0 where
  pub fit : Fit verb inputs output
  pub paths : paths_in (files_id verb) rows ≡ input_paths inputs ++ output_paths output
  pub directory : IsDirectory rows verb output
  pub streamed : IsStreamed rows inputs

-- a stream's buffers have size prefixes, and its JSON texts are lines
abbrev pub form_in : List Row → Form
form_in rows = record {
  size_prefixed = is_streamed rows || is_set (codes "size-prefixed") rows;
  compact = is_streamed rows || is_set (codes "compact") rows;
}

abbrev pub IsTask : Text → List Row → Task → Type 0
IsTask name rows task = IsVerb name rows task.verb × IsPath (codes "SCHEMA") rows task.schema
    × AreFiles rows task.verb task.inputs task.output × (task.form ≡ form_in rows)

abbrev pub IsComparison : Text → List Row → Comparison → Type 0
IsComparison name rows comparison = (name ≡ codes "conform")
    × IsPath (codes "OLD") rows comparison.old × IsPath (codes "NEW") rows comparison.new
    × (comparison.names ≡ is_set (codes "names") rows)
    × (first_of (codes "NAME") rows ≡ option_map string_bytes comparison.old_name)
    × (is_set (codes "chain") rows ≡ false)

abbrev pub first_text : Text → List Row → Text
first_text id rows = unwrap_or (first_of id rows) []

-- with `--chain` all paths are versions, in the order of the words
abbrev pub IsChain : Text → List Row → Chain → Type 0
IsChain name rows chain = (name ≡ codes "conform") × (is_set (codes "chain") rows ≡ true)
    × (map string_bytes chain.versions.items ≡ first_text (codes "OLD") rows ∷ paths_in (codes "NEW") rows)
    × (chain.names ≡ is_set (codes "names") rows)

-- with `--schemas` all paths are schemas, in the order of the words
abbrev pub AreSchemas : Text → List Row → Vec (String Global) Global → Type 0
AreSchemas name rows schemas = (name ≡ codes "check") × (is_set (codes "schemas") rows ≡ true)
    × (map string_bytes schemas.items ≡ first_text (codes "SCHEMA") rows ∷ paths_in (codes "BIN") rows)

abbrev pub IsInspection : Text → List Row → Inspection → Type 0
IsInspection name rows (Bytes schema bin raw size_prefixed) = (name ≡ codes "inspect")
    × (is_set (codes "header") rows ≡ false)
    × (paths_in (codes "FILE") rows ≡ string_bytes schema ∷ string_bytes bin ∷ [])
    × (raw ≡ is_set (codes "raw-binary") rows) × (size_prefixed ≡ is_set (codes "size-prefixed") rows)
IsInspection name rows (Header bin) = (name ≡ codes "inspect") × (is_set (codes "header") rows ≡ true)
    × (paths_in (codes "FILE") rows ≡ string_bytes bin ∷ [])

-- `--terse` is the format `line`, and wins over `--explain`, which is `human`
abbrev pub format_in : List Row → Option ErrorFormat
format_in rows =
    if is_set (codes "terse") rows then Some Line
    else if is_set (codes "explain") rows then Some Human
    else option_map_or format_named (first_of (codes "FORMAT") rows) None

-- a task, a comparison, a chain, schemas, an inspection or a description, and the format of its refusals if the line has
-- one, or the number of a refusal if the line has one
abbrev pub IsRequest : Text → List Row → Request → Type 0
IsRequest name rows (Do task format) = IsTask name rows task × (format ≡ format_in rows)
IsRequest name rows (Conform comparison format) = IsComparison name rows comparison × (format ≡ format_in rows)
IsRequest name rows (ConformChain chain format) = IsChain name rows chain × (format ≡ format_in rows)
IsRequest name rows (CheckSchemas schemas format) = AreSchemas name rows schemas × (format ≡ format_in rows)
IsRequest name rows (Inspect inspection format) = IsInspection name rows inspection × (format ≡ format_in rows)
IsRequest name rows (Describe schema format) = (name ≡ codes "describe") × IsPath (codes "SCHEMA") rows schema
    × (format ≡ format_in rows)
IsRequest name rows (Explain number) = (name ≡ codes "explain")
    × (first_of (codes "NUMBER") rows ≡ option_map string_bytes number)

-- what a subcommand and its matches ask for
abbrev pub IsRequestOf : Option (Text × List Row) → Request → Type 0
IsRequestOf None request = ⊥
IsRequestOf (Some p) request = IsRequest p.0 p.1 request

-- ---- what clap can't say of a line

abbrev pub has_dir : List Row → Bool
has_dir rows = is_some (first_of (codes "DIR") rows)

-- a stream has one input, buffers with a size prefix, and a text a line; it alone can go on
abbrev pub is_stream_allowed : List Row → Bool
is_stream_allowed rows = if is_streamed rows then not (has_dir rows) && (not (is_set (codes "size-prefixed") rows)
    && not (is_set (codes "compact") rows))
    else not (is_set (codes "keep-going") rows)

-- without a schema no identifier is known, and whether there is a size prefix is what is shown
abbrev pub is_header_allowed : List Row → Bool
is_header_allowed rows = not (is_set (codes "header") rows) || (not (is_set (codes "raw-binary") rows)
    && not (is_set (codes "size-prefixed") rows))

-- `--error-format` has one of the four names, and neither `--explain` nor `--terse` is written
abbrev pub is_format_allowed : List Row → Bool
is_format_allowed rows = option_map_or (λ name. is_some (format_named name) && (not (is_set (codes "explain") rows)
    && not (is_set (codes "terse") rows))) (first_of (codes "FORMAT") rows) true

-- of a chain no version is the old schema alone
abbrev pub is_chain_allowed : List Row → Bool
is_chain_allowed rows = not (is_set (codes "chain") rows && is_some (first_of (codes "NAME") rows))

-- a schema is no buffer, so no word on buffers goes with `--schemas`
abbrev pub are_schemas_allowed : List Row → Bool
are_schemas_allowed rows = not (is_set (codes "schemas") rows) || (not (is_set (codes "raw-binary") rows)
    && (not (is_set (codes "size-prefixed") rows) && (not (is_streamed rows)
    && not (is_set (codes "keep-going") rows))))

-- no flag rules out another, or lacks another, and each value is one of those that its flag takes
abbrev pub are_allowed : List Row → Bool
are_allowed rows = are_schemas_allowed rows && (is_stream_allowed rows && (is_header_allowed rows
    && (is_chain_allowed rows && is_format_allowed rows)))

-- as many paths as the line takes: without a directory JSON and OUT, or one BIN; of a stream one BIN; without `--chain`
-- one NEW; with `--header` one, else two
abbrev pub is_counted : Text → List Row → Bool
is_counted name rows = if bytes_eq name (codes "binary") then has_dir rows || length (paths_in (codes "JSON") rows) == 2
    else if bytes_eq name (codes "json") then has_dir rows || length (paths_in (codes "BIN") rows) == 1
    else if bytes_eq name (codes "check") then not (is_streamed rows) || length (paths_in (codes "BIN") rows) == 1
    else if bytes_eq name (codes "conform") then is_set (codes "chain") rows
    || length (paths_in (codes "NEW") rows) == 1
    else if bytes_eq name (codes "inspect") then length (paths_in (codes "FILE") rows) == (if is_set (codes "header")
    rows then 1 else 2)
    else true

-- the paths that are read: not OUT, the last of a line without a directory
abbrev pub inputs_in : Text → List Row → List Text
inputs_in name rows =
    if bytes_eq name (codes "binary") then
    first_text (codes "SCHEMA") rows ∷ (if has_dir rows then paths_in (codes "JSON") rows else take 1
    (paths_in (codes "JSON") rows))
    else if bytes_eq name (codes "json") then first_text (codes "SCHEMA") rows ∷ paths_in (codes "BIN") rows
    else if bytes_eq name (codes "check") then first_text (codes "SCHEMA") rows ∷ paths_in (codes "BIN") rows
    else if bytes_eq name (codes "conform") then first_text (codes "OLD") rows ∷ paths_in (codes "NEW") rows
    else if bytes_eq name (codes "inspect") then paths_in (codes "FILE") rows
    else []

abbrev pub has_inputs : Text → List Row → Bool
has_inputs name rows = is_counted name rows && is_read_once (inputs_in name rows)

abbrev pub is_line_of : Text → List Row → Bool
is_line_of name rows = are_allowed rows && has_inputs name rows

-- a line has flags that go together, as many paths as it takes, and reads standard input once at most
abbrev pub is_line : Option (Text × List Row) → Bool
is_line None = false
is_line (Some p) = is_line_of p.0 p.1
