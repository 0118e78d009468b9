use Rattle.std.proofs.Common.{◌≡◌, All, true, map, take}
use Rattle.std.specs.Path.{path_buf_bytes}
use Rattle.flatc_files.specs.Targets.{AreDistinct, has_path}
use Rattle.flatc_files.proofs.targets.check_distinct.Given as goal

abbrev pub invariant-loop-path : goal.invariant-loop-path
invariant-loop-path l = record {
  distinct : AreDistinct (map path_buf_bytes (take l.path-index l.paths));
  met : All (λ output. has_path l.met output ≡ true) (map path_buf_bytes (take l.path-index l.paths));
}
