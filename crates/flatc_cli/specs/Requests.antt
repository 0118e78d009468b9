-- What is said of a request itself.
use Rattle.std.specs.Prelude.{if◌then◌else◌, false, Option, Some, None, List, [], ◌∷◌, codes, map, string_bytes}
use Rattle.std.specs.Str.{bytes_eq}
use Rattle.flatc_files.specs.StandardPaths.{Text}
use Rattle.flatc_cli.specs.declared.request.Verb.{Verb}
use Rattle.flatc_cli.specs.declared.request.Verb.TheVariants.{Binary, Json}
use Rattle.flatc_cli.specs.declared.request.Inputs.{Inputs}
use Rattle.flatc_cli.specs.declared.request.Inputs.TheVariants.{Schema, One, Each, Stream}
use Rattle.flatc_cli.specs.declared.request.Output.{Output}
use Rattle.flatc_cli.specs.declared.request.Output.TheVariants.{File, Directory}
use Rattle.flatc_cli.specs.declared.request.Form.{Form}
use Rattle.flatc_cli.specs.declared.request.ErrorFormat.{ErrorFormat}
use Rattle.flatc_cli.specs.declared.request.ErrorFormat.TheVariants.{Line, Human, Short, Json as JsonLines}

-- no size prefix, and an indented text
abbrev pub usual_form : Form
usual_form = record { size_prefixed = false; compact = false }

-- the directory and the extension of the outputs that are named after the inputs
abbrev pub directory_of : Verb → Output → Option (Text × Text)
directory_of (Binary unknown) (Directory dir) = Some (string_bytes dir, codes "bin")
directory_of (Json raw defaults) (Directory dir) = Some (string_bytes dir, codes "json")
directory_of _ _ = None

-- the paths that are read after the schema's
abbrev pub input_paths : Inputs → List Text
input_paths Schema = []
input_paths (One path) = string_bytes path ∷ []
input_paths (Each paths) = map string_bytes paths.items
input_paths (Stream path keep_going) = string_bytes path ∷ []

-- OUT, where the line names it
abbrev pub output_paths : Output → List Text
output_paths (File path) = string_bytes path ∷ []
output_paths _ = []

-- the format of this name
unfoldable pub format_named : Text → Option ErrorFormat
format_named name = if bytes_eq name (codes "line") then Some Line
    else if bytes_eq name (codes "human") then Some Human
    else if bytes_eq name (codes "short") then Some Short
    else if bytes_eq name (codes "json") then Some JsonLines
    else None
