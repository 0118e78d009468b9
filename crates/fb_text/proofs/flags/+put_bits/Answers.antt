use Rattle.std.proofs.Common.{true, ap, sym, ◌∙◌, arith}
use Rattle.fb_schema.specs.Schema.{body_at}
use Rattle.fb_schema.specs.Found.{name_numbered}
use Rattle.fb_text.specs.Texts.{bits_text}
use Rattle.fb_text.proofs.flags.LowestBit.{first_written}
use Rattle.fb_text.proofs.flags.NoBitsHaveNoNames.{none_written}
use Rattle.fb_text.proofs.noted.PiecesAddUp.{added_none, added_as, then}
use Rattle.fb_text.proofs.flags.+put_bits.Goals as goal

pub returns-then-bits-eq0 : goal.returns-then-bits-eq0
returns-then-bits-eq0 g t c =
    let name = name_numbered (body_at c.args.names.now.schema.now c.args.names.now.enumeration.0) in
    let none = ap (λ n. bits_text name 64 1 n c.args.some) c.if-bits-eq0.true ∙ none_written name 64 1 c.args.some in
    added_as (sym none) (added_none _)

pub returns : goal.returns
returns g t c =
    let bits = c.args.bits in
    let name = name_numbered (body_at c.args.names.now.schema.now c.args.names.now.enumeration.0) in
    let rest = added_as (ap (λ n. bits_text name 64 1 n true) c.higher_bits.ensures.is) c.put_bits.ensures in
    added_as (first_written name bits (omega arith) c.ranges.bits.fits c.args.some)
    (then (then c.put_gap.ensures c.put_bit.ensures) rest)
