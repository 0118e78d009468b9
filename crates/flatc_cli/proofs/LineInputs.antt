-- Whether a line has as many paths as it takes, and reads standard input once, from the paths that were found.
use Rattle.std.proofs.Common.{ℕ, ◌≡◌, ◌≢◌, ◌==◌, ◌∙◌, Bool, true, false, List, [], ◌∷◌, Some, None}
use Rattle.std.proofs.Common.{length, codes, refl, sym, Result, Ok, Err}
use Rattle.std.proofs.lemmas.Bool.{false≢true, eqb-true, false_from_ne_true}
use Rattle.std.specs.Result.{IfErr, OnOk}
use Rattle.clap.specs.Words.{Row, Text, first_of}
use Rattle.flatc_files.specs.StandardPaths.{is_read_once}
use Rattle.flatc_cli.specs.Lines.{paths_in, first_text, has_inputs, is_set, is_streamed}

-- what is said of a refused line that is one is said of nothing
pub refused : {T E : Type 0} (P : E → Type 0) (r : Result T E) (line : Bool) → line ≡ false
    → IfErr r (λ e. line ≡ true → P e)
refused P (Ok x) line none = tt
refused P (Err e) line none = λ is. absurd (false≢true (sym none ∙ is))

pub taken : {T E P : Type 0} (r : Result T E) → P → OnOk r P
taken (Ok x) is = is
taken (Err e) is = tt

differs : (count taken : ℕ) → count ≢ taken → (count == taken) ≡ false
differs count taken other = false_from_ne_true _ (λ same. other (eqb-true count taken same))

pub binary_inputs : (rows : List Row) (schema json out : Text) → first_of (codes "DIR") rows ≡ None
    → paths_in (codes "JSON") rows ≡ json ∷ out ∷ [] → schema ≡ first_text (codes "SCHEMA") rows
    → has_inputs (codes "binary") rows ≡ is_read_once (schema ∷ json ∷ [])
binary_inputs rows schema json out no_dir paths is = rw (no_dir, paths, is) refl

pub binary_uncounted : (rows : List Row) → first_of (codes "DIR") rows ≡ None
    → length (paths_in (codes "JSON") rows) ≢ 2 → has_inputs (codes "binary") rows ≡ false
binary_uncounted rows no_dir other =
    let uncounted = differs (length (paths_in (codes "JSON") rows)) 2 other in rw (no_dir, uncounted) refl

pub binaries_inputs : (rows : List Row) (schema dir : Text) (files : List Text)
    → Some dir ≡ first_of (codes "DIR") rows → files ≡ paths_in (codes "JSON") rows
    → schema ≡ first_text (codes "SCHEMA") rows → has_inputs (codes "binary") rows ≡ is_read_once (schema ∷ files)
binaries_inputs rows schema dir files has_dir paths is = rw (← has_dir, paths, is) refl

pub json_inputs : (rows : List Row) (schema bin : Text) → first_of (codes "DIR") rows ≡ None
    → paths_in (codes "BIN") rows ≡ bin ∷ [] → schema ≡ first_text (codes "SCHEMA") rows
    → has_inputs (codes "json") rows ≡ is_read_once (schema ∷ bin ∷ [])
json_inputs rows schema bin no_dir paths is = rw (no_dir, paths, is) refl

pub json_uncounted : (rows : List Row) → first_of (codes "DIR") rows ≡ None
    → length (paths_in (codes "BIN") rows) ≢ 1 → has_inputs (codes "json") rows ≡ false
json_uncounted rows no_dir other =
    let uncounted = differs (length (paths_in (codes "BIN") rows)) 1 other in rw (no_dir, uncounted) refl

pub jsons_inputs : (rows : List Row) (schema dir : Text) (files : List Text)
    → Some dir ≡ first_of (codes "DIR") rows → files ≡ paths_in (codes "BIN") rows
    → schema ≡ first_text (codes "SCHEMA") rows → has_inputs (codes "json") rows ≡ is_read_once (schema ∷ files)
jsons_inputs rows schema dir files has_dir paths is = rw (← has_dir, paths, is) refl

pub check_inputs : (rows : List Row) (schema : Text) (files : List Text) → is_streamed rows ≡ false
    → files ≡ paths_in (codes "BIN") rows → schema ≡ first_text (codes "SCHEMA") rows
    → has_inputs (codes "check") rows ≡ is_read_once (schema ∷ files)
check_inputs rows schema files not_streamed paths is = rw (not_streamed, paths, is) refl

pub inspected_inputs : (rows : List Row) (schema bin : Text) → is_set (codes "header") rows ≡ false
    → paths_in (codes "FILE") rows ≡ schema ∷ bin ∷ []
    → has_inputs (codes "inspect") rows ≡ is_read_once (schema ∷ bin ∷ [])
inspected_inputs rows schema bin no_header paths = rw (no_header, paths) refl

pub inspected_uncounted : (rows : List Row) → is_set (codes "header") rows ≡ false
    → length (paths_in (codes "FILE") rows) ≢ 2 → has_inputs (codes "inspect") rows ≡ false
inspected_uncounted rows no_header other =
    let uncounted = differs (length (paths_in (codes "FILE") rows)) 2 other in rw (no_header, uncounted) refl
