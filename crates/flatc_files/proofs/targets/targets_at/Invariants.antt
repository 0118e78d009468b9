use Rattle.std.proofs.Common.{◌≡◌, ◌++◌, map}
use Rattle.std.specs.Path.{path_buf_bytes}
use Rattle.std.specs.Vec.Iter.{into_iter_items}
use Rattle.flatc_files.proofs.targets.targets_at.Given as goal

abbrev pub invariant-loop-path : goal.invariant-loop-path
invariant-loop-path l = map (λ target. path_buf_bytes target.path) l.targets.items
    ++ map path_buf_bytes (into_iter_items l.path-iterator) ≡ map path_buf_bytes l.fn.paths.items
