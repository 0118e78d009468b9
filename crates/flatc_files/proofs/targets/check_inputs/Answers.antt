use Rattle.std.proofs.Common.{◌≡◌, false, string_bytes, arith}
use Rattle.std.proofs.lemmas.List.{take_all}
use Rattle.std.proofs.lemmas.List.Elements.{All-cons}
use Rattle.flatc_files.specs.Targets.{has_path}
use Rattle.flatc_files.proofs.Paths.{All-map-more}
use Rattle.flatc_files.proofs.targets.check_inputs.Goals as goal

pub loop-file-preserved : goal.loop-file-preserved
loop-file-preserved c =
    let checked : has_path c.args.outputs.now c.as_str.result.now ≡ false = c.in_ok-check_input-2.ensures in
    All-map-more (λ input. has_path c.args.outputs.now input ≡ false) string_bytes c.args.files.now
    c.loop-file.file-index c.file-item.result (omega arith) c.loop-file.invariant
    (rw (← c.file-item.is) (rw c.as_str.ensures.value at checked))

pub returns : goal.returns
returns c =
    let end = take_all c.loop-file.file-index c.args.files.now (omega arith) in
    All-cons (λ input. has_path c.args.outputs.now input ≡ false) _ _ c.in_ok-check_input.ensures
    (rw end at c.loop-file.invariant)
