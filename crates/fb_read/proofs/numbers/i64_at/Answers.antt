use mir.Facts.{to_z-of_z}
use Rattle.std.proofs.Common.{◌∙◌, ap, rules}
use Rattle.std.specs.Prelude.{FitsSigned}
use Rattle.std.specs.Int.{w64, cast_signed}
use Rattle.fb_value.specs.Num.{num}
use Rattle.fb_read.proofs.numbers.SumIsWhatByteorderReads.{num_in_slice, signed_is_64}
use Rattle.fb_read.proofs.numbers.i64_at.Goals as goal

pub returns : goal.returns
returns c =
    let read = c.read_i64.ensures ∙ ap (λ x. cast_signed w64 x) (num_in_slice c.args.bytes.now c.args.at 8)
    ∙ signed_is_64 (num c.args.bytes.now c.args.at 8) in
    let fits : FitsSigned w64 c.read_i64.result = search (rules, c.read_i64.type_inv) in
    to_z-of_z {w = w64} {z = c.read_i64.result} fits ∙ read
