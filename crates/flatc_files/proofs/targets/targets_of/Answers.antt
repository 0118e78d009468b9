use Rattle.std.proofs.Common.{◌∙◌, map}
use Rattle.std.specs.Path.{path_buf_bytes}
use Rattle.flatc_files.specs.Targets.{AreApart, AreDistinct, inputs_of}
use Rattle.flatc_files.proofs.targets.targets_of.Goals as goal

pub returns-clause-outputs : goal.returns-clause-outputs
returns-clause-outputs c = c.in_ok-targets.ensures ∙ c.in_ok-paths.ensures

pub returns-clause-distinct : goal.returns-clause-distinct
returns-clause-distinct c =
    let distinct : AreDistinct (map path_buf_bytes c.in_ok-paths.paths.items)
    = rw c.as_slice.ensures.value at c.in_ok-check_distinct.ensures.distinct in
    rw c.in_ok-paths.ensures at distinct

pub returns-clause-apart : goal.returns-clause-apart
returns-clause-apart c =
    let apart : AreApart (inputs_of c.args.schema.now c.args.files.now) (map path_buf_bytes c.in_ok-paths.paths.items)
    = rw c.as_slice.ensures.value at c.in_ok-check_distinct.ensures.apart in
    rw c.in_ok-paths.ensures at apart
