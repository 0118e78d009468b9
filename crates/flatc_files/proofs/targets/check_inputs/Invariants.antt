use Rattle.std.proofs.Common.{◌≡◌, All, false, map, take, string_bytes}
use Rattle.flatc_files.specs.Targets.{has_path}
use Rattle.flatc_files.proofs.targets.check_inputs.Given as goal

abbrev pub invariant-loop-file : goal.invariant-loop-file
invariant-loop-file l = All (λ input. has_path l.outputs input ≡ false)
    (map string_bytes (take l.file-index l.files))
