-- Where the outputs of several files go.
use Rattle.std.specs.Prelude.{◌≢◌, ◌++◌, ◌∷◌, List, Bool, All, AllPairs, String, unwrap_or, map, string_bytes}
use Rattle.std.specs.BTreeSet.{BTreeSet, contains_by}
use Rattle.std.specs.Cmp.Lexicographic.{slice_cmp}
use Rattle.std.specs.Ordering.{nat_cmp}
use Rattle.std.specs.Path.{path_file_stem, path_join}
use denote.Ref.{Bor}
use Rattle.std.specs.declared.alloc.Global.{Global}
use Rattle.flatc_files.specs.StandardPaths.{Text}

-- an input's name with another extension (46 is the dot)
abbrev pub target_name : Text → Text → Text
target_name extension file = unwrap_or (path_file_stem file) file ++ 46 ∷ extension

-- where the file of an input goes: into the directory
abbrev pub target_in : Text → Text → Text → Text
target_in dir extension file = path_join dir (target_name extension file)

-- the paths of the outputs: one for each file, in their order
abbrev pub outputs_of : Text → Text → List (String Global) → List Text
outputs_of dir extension files = map (λ file. target_in dir extension (string_bytes file)) files

-- the paths that are read, as the line has them
abbrev pub inputs_of : Text → List (String Global) → List Text
inputs_of schema files = schema ∷ map string_bytes files

-- no two outputs have the same path
abbrev pub AreDistinct : List Text → Type 0
AreDistinct outputs = AllPairs (λ a b. a ≢ b) outputs

-- no output has the path of an input
abbrev pub AreApart : List Text → List Text → Type 0
AreApart inputs outputs = All (λ input. All (λ output. output ≢ input) outputs) inputs

-- whether a path is in a set
unfoldable pub has_path : BTreeSet (Bor Text) → Text → Bool
has_path paths path = contains_by (λ other. slice_cmp nat_cmp path other.now) paths
