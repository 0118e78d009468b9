use mir.Facts.{to_z-of_z}
use Rattle.std.proofs.Common.{◌∙◌, ap, rules}
use Rattle.std.specs.Prelude.{FitsSigned}
use Rattle.std.specs.Int.{w16, cast_signed}
use Rattle.fb_value.specs.Num.{num}
use Rattle.fb_read.proofs.numbers.SumIsWhatByteorderReads.{num_in_slice, signed_is_16}
use Rattle.fb_read.proofs.numbers.i16_at.Goals as goal

pub returns : goal.returns
returns c =
    let read = c.read_i16.ensures ∙ ap (λ x. cast_signed w16 x) (num_in_slice c.args.bytes.now c.args.at 2)
    ∙ signed_is_16 (num c.args.bytes.now c.args.at 2) in
    let fits : FitsSigned w16 c.read_i16.result = search (rules, c.read_i16.type_inv) in
    to_z-of_z {w = w16} {z = c.read_i16.result} fits ∙ read
