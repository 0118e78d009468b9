use mir.Facts.{to_z-of_z}
use Rattle.std.proofs.Common.{◌∙◌, ap, rules}
use Rattle.std.specs.Prelude.{FitsSigned}
use Rattle.std.specs.Int.{w32, cast_signed}
use Rattle.fb_value.specs.Num.{num}
use Rattle.fb_read.proofs.numbers.SumIsWhatByteorderReads.{num_in_slice, signed_is}
use Rattle.fb_read.proofs.numbers.i32_at.Goals as goal

pub returns : goal.returns
returns c =
    let read = c.read_i32.ensures ∙ ap (λ x. cast_signed w32 x) (num_in_slice c.args.bytes.now c.args.at 4)
    ∙ signed_is (num c.args.bytes.now c.args.at 4) in
    let fits : FitsSigned w32 c.read_i32.result = search (rules, c.read_i32.type_inv) in
    to_z-of_z {w = w32} {z = c.read_i32.result} fits ∙ read
