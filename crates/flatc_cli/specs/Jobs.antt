-- The four lines over one file each, without a word on error formats, streams and forms.
use Rattle.std.specs.Prelude.{◌&&◌, ◌||◌, Bool, false, not, List, Option, Some, None, codes, is_some, length, nat_lt}
use Rattle.std.specs.Str.{bytes_eq}
use Rattle.clap.specs.Words.{Row, Text, first_of}
use Rattle.flatc_cli.specs.Lines.{is_set, is_streamed, has_dir, paths_in, is_line_of}
use Rattle.flatc_cli.specs.Requests.{usual_form}
use Rattle.flatc_cli.specs.declared.job.Job.{Job}
use Rattle.flatc_cli.specs.declared.job.Job.TheVariants as job
use Rattle.flatc_cli.specs.declared.request.Verb.TheVariants.{Binary, Json, Check}
use Rattle.flatc_cli.specs.declared.request.Inputs.TheVariants.{Schema, One}
use Rattle.flatc_cli.specs.declared.request.Output.TheVariants.{Standard, File}
use Rattle.flatc_cli.specs.declared.request.Request.{Request}
use Rattle.flatc_cli.specs.declared.request.Request.TheVariants.{Do, Conform}

-- the request that a job is
abbrev pub request_of_job : Job → Request
request_of_job (job.Binary schema json out unknown) = Do (record {
  verb = Binary unknown;
  schema = schema;
  inputs = One json;
  output = File out;
  form = usual_form;
}) None
request_of_job (job.Json schema bin raw defaults) = Do (record {
  verb = Json raw defaults;
  schema = schema;
  inputs = One bin;
  output = Standard;
  form = usual_form;
}) None
request_of_job (job.Check schema None raw) = Do (record {
  verb = Check raw;
  schema = schema;
  inputs = Schema;
  output = Standard;
  form = usual_form;
}) None
request_of_job (job.Check schema (Some bin) raw) = Do (record {
  verb = Check raw;
  schema = schema;
  inputs = One bin;
  output = Standard;
  form = usual_form;
}) None
request_of_job (job.Conform old new names) = Conform (record {
  old = old;
  new = new;
  names = names;
  old_name = None;
}) None

-- one buffer at most
abbrev pub is_single : Text → List Row → Bool
is_single name rows = not (bytes_eq name (codes "check")) || nat_lt (length (paths_in (codes "BIN") rows)) 2

-- no word on error formats
abbrev pub has_no_format : List Row → Bool
has_no_format rows = not (is_set (codes "terse") rows) && (not (is_set (codes "explain") rows)
    && not (is_some (first_of (codes "FORMAT") rows)))

-- no name for the old schema
abbrev pub has_no_name : List Row → Bool
has_no_name rows = not (is_some (first_of (codes "NAME") rows))

-- two schemas that are compared at most, and one that is checked
abbrev pub is_no_list : List Row → Bool
is_no_list rows = not (is_set (codes "chain") rows) && not (is_set (codes "schemas") rows)

-- no word on streams and forms, no directory, and one buffer at most
abbrev pub is_of_one : Text → List Row → Bool
is_of_one name rows = not (is_streamed rows) && (not (is_set (codes "size-prefixed") rows)
    && (not (is_set (codes "compact") rows) && (not (has_dir rows) && is_single name rows)))

-- one of the four lines over one file each, without a word on error formats, names, streams and forms
abbrev pub is_job_of : Text → List Row → Bool
is_job_of name rows = is_line_of name rows && (not (bytes_eq name (codes "explain"))
    && (not (bytes_eq name (codes "inspect")) && (not (bytes_eq name (codes "describe")) && (has_no_format rows
    && (has_no_name rows && (is_no_list rows && is_of_one name rows))))))

abbrev pub is_job_line : Option (Text × List Row) → Bool
is_job_line None = false
is_job_line (Some p) = is_job_of p.0 p.1
