-- The files of a task, from the paths that were found.
use Rattle.std.proofs.Common.{◌≡◌, if◌then◌else◌, ◌&&◌, ◌∷◌, ◌++◌, [], Bool, true, false, not, List, Some, refl, sym, ap}
use Rattle.std.proofs.Common.{codes, is_some, String, string_bytes}
use Rattle.std.specs.declared.alloc.Global.{Global}
use Rattle.clap.specs.Words.{Row, Text, first_of}
use Rattle.flatc_cli.specs.Lines.{Fit, IsOneFile, are_allowed, are_schemas_allowed, has_dir, is_set}
use Rattle.flatc_cli.specs.Lines.{is_stream_allowed, is_streamed, paths_in}
use Rattle.flatc_cli.specs.Requests.{input_paths, output_paths}
use Rattle.flatc_cli.specs.declared.request.Verb.TheVariants.{Binary, Json}
use Rattle.flatc_cli.specs.declared.request.Inputs.{Inputs}
use Rattle.flatc_cli.specs.declared.request.Inputs.TheVariants.{Schema, One, Each, Stream}
use Rattle.flatc_cli.specs.declared.request.Output.TheVariants.{Standard, File}

pub one_binary : (unknown : Bool) (inputs : Inputs) (out : String Global) → IsOneFile inputs
    → Fit (Binary unknown) inputs (File out)
one_binary unknown (One json) out one = one
one_binary unknown (Stream lines going) out one = one
one_binary unknown Schema out one = absurd one
one_binary unknown (Each jsons) out one = absurd one

pub one_json : (raw defaults : Bool) (inputs : Inputs) → IsOneFile inputs → Fit (Json raw defaults) inputs Standard
one_json raw defaults (One bin) one = one
one_json raw defaults (Stream bins going) one = one
one_json raw defaults Schema one = absurd one
one_json raw defaults (Each bins) one = absurd one

pub with_out : (rows : List Row) (json out : Text) (inputs : Inputs) (file : String Global)
    → paths_in (codes "JSON") rows ≡ json ∷ out ∷ [] → input_paths inputs ≡ json ∷ [] → string_bytes file ≡ out
    → paths_in (codes "JSON") rows ≡ input_paths inputs ++ output_paths (File file)
with_out rows json out inputs file paths path is = rw (paths, path, is) refl

pub alone : (rows : List Row) (bin : Text) (inputs : Inputs) → paths_in (codes "BIN") rows ≡ bin ∷ []
    → input_paths inputs ≡ bin ∷ [] → paths_in (codes "BIN") rows ≡ input_paths inputs ++ []
alone rows bin inputs paths path = rw (paths, path) refl

no_lines : (lines dir rest other : Bool) → dir ≡ true → (if lines then not dir && rest else other) ≡ true
    → lines ≡ false
no_lines false dir rest other is allowed = refl
no_lines true true rest other is allowed = sym allowed
no_lines true false rest other is allowed = sym is

-- a line with a directory has no stream
pub dir_not_streamed : (rows : List Row) (dir : Text) → is_stream_allowed rows ≡ true
    → Some dir ≡ first_of (codes "DIR") rows → is_streamed rows ≡ false
dir_not_streamed rows dir allowed has =
    no_lines (is_streamed rows) (has_dir rows) (not (is_set (codes "size-prefixed") rows)
    && not (is_set (codes "compact") rows)) (not (is_set (codes "keep-going") rows)) (ap is_some (sym has)) allowed

and_left : (a b : Bool) → (a && b) ≡ true → a ≡ true
and_left true b both = refl
and_left false b both = both

and_right : (a b : Bool) → (a && b) ≡ true → b ≡ true
and_right true b both = both
and_right false b both = cc

pub stream_allowed : (rows : List Row) → are_allowed rows ≡ true → is_stream_allowed rows ≡ true
stream_allowed rows allowed =
    and_left (is_stream_allowed rows) _ (and_right (are_schemas_allowed rows) _ allowed)
