use Rattle.std.proofs.Common.{◌≡◌, map, take, string_bytes}
use Rattle.std.specs.Path.{path_buf_bytes}
use Rattle.flatc_files.specs.Targets.{target_in}
use Rattle.flatc_files.proofs.target_paths.targets_in.Given as goal

abbrev pub invariant-loop-file : goal.invariant-loop-file
invariant-loop-file l = map path_buf_bytes l.targets.items ≡ map
    (λ file. target_in l.dir l.extension (string_bytes file)) (take l.file-index l.files)
