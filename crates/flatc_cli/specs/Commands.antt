-- The command `flatc`, as clap sees it.
-- After the FlatBuffers documentation, "Using the schema compiler": the options keep its words.
use Rattle.std.specs.Prelude.{◌≡◌, Bool, true, false, Some, codes}
use Rattle.clap.specs.Words.{App, Rule, Text, app_of, new_app, new_rule, with_rule, with_subcommand}
use Rattle.clap.specs.declared.builder.action.ArgAction.TheVariants.{SetTrue, Append}
use Rattle.clap.specs.declared.builder.command.Command.{Command}
use Rattle.clap.specs.declared.builder.command.Command.TheViews.{out-Command}

abbrev pub path_rule : Text → Bool → Rule
path_rule id required = record (new_rule id) { required = required }

-- all paths that are left
abbrev pub paths_rule : Text → Bool → Rule
paths_rule id required = record (new_rule id) { required = required; action = Some Append }

abbrev pub flag_rule : Text → Rule
flag_rule name = record (new_rule name) { long = Some name; action = Some SetTrue }

-- `-o DIR`, `--out-dir DIR` (111 is `o`)
abbrev pub dir_rule : Rule
dir_rule = record (new_rule (codes "DIR")) { long = Some (codes "out-dir"); short = Some 111 }

abbrev pub with_path : App → Text → App
with_path a id = with_rule a (path_rule id true)

abbrev pub with_paths : App → Text → App
with_paths a id = with_rule a (paths_rule id true)

abbrev pub with_flag : App → Text → App
with_flag a name = with_rule a (flag_rule name)

-- `--LONG ID`
abbrev pub value_rule : Text → Text → Rule
value_rule id long = record (new_rule id) { long = Some long }

-- `--explain`, `--terse` and `--error-format FORMAT`, which all jobs have
abbrev pub with_formats : App → App
with_formats a = with_rule (with_flag (with_flag a (codes "explain")) (codes "terse"))
    (value_rule (codes "FORMAT") (codes "error-format"))

-- `--lines` and `--keep-going`, which jobs over a stream of messages have
abbrev pub with_streaming : App → App
with_streaming a = with_flag (with_flag a (codes "lines")) (codes "keep-going")

-- a directory, a schema and further paths
abbrev pub with_files : App → Rule → App
with_files a files = with_rule (with_path (with_rule a dir_rule) (codes "SCHEMA")) files

abbrev pub binary_flags : App
binary_flags = with_formats (with_streaming (with_flag (with_flag (new_app (codes "binary")) (codes "unknown-json"))
    (codes "size-prefixed")))

abbrev pub binary_app : App
binary_app = with_files binary_flags (paths_rule (codes "JSON") true)

abbrev pub json_flags : App
json_flags = with_formats (with_streaming (with_flag (with_flag (with_flag
    (with_flag (new_app (codes "json")) (codes "raw-binary")) (codes "defaults-json")) (codes "size-prefixed"))
    (codes "compact")))

abbrev pub json_app : App
json_app = with_files json_flags (paths_rule (codes "BIN") true)

abbrev pub check_app : App
check_app = with_rule (with_path (with_formats (with_flag (with_streaming (with_flag
    (with_flag (new_app (codes "check")) (codes "raw-binary")) (codes "size-prefixed"))) (codes "schemas")))
    (codes "SCHEMA")) (paths_rule (codes "BIN") false)

abbrev pub conform_app : App
conform_app = with_paths (with_path (with_formats (with_rule (with_flag
    (with_flag (new_app (codes "conform")) (codes "names")) (codes "chain"))
    (value_rule (codes "NAME") (codes "old-name")))) (codes "OLD")) (codes "NEW")

-- the schema's path and the buffer's, or with `--header` the buffer's alone
abbrev pub inspect_app : App
inspect_app = with_paths (with_formats (with_flag (with_flag
    (with_flag (new_app (codes "inspect")) (codes "raw-binary")) (codes "size-prefixed")) (codes "header")))
    (codes "FILE")

abbrev pub describe_app : App
describe_app = with_path (with_formats (new_app (codes "describe"))) (codes "SCHEMA")

abbrev pub explain_app : App
explain_app = with_rule (new_app (codes "explain")) (path_rule (codes "NUMBER") false)

-- words without the program's name, the first of which names a job, and `--version`
abbrev pub plain_app : App
plain_app = record (new_app (codes "flatc")) {
  top = record (new_app (codes "flatc")).top { no_binary_name = true; subcommand_required = true; has_version = true };
}

abbrev pub flatc_app : App
flatc_app = with_subcommand (with_subcommand (with_subcommand (with_subcommand (with_subcommand
    (with_subcommand (with_subcommand plain_app binary_app.top) json_app.top) check_app.top) conform_app.top)
    inspect_app.top) describe_app.top) explain_app.top

-- a command that clap sees as this one, none of whose arguments is global
abbrev pub HasApp : App → Command → Type 0
HasApp a c = (app_of c ≡ a) × ((out-Command c).has_globals ≡ false)
