use Rattle.std.proofs.Common.{rules, ◌≡◌, true, false, ap, ◌∙◌}
use Rattle.std.proofs.lemmas.Int.{to_z-of_z}
use mir.Syntax.{w128}
use Rattle.fb_schema.specs.Schema.{body_at}
use Rattle.fb_schema.specs.Found.{name_numbered}
use Rattle.fb_text.specs.Texts.{are_flags, bits_of, bits_text}
use Rattle.fb_text.proofs.flags.LowBits.{low_written}
use Rattle.fb_text.proofs.noted.PiecesAddUp.{added_as, then}
use Rattle.fb_text.proofs.numbers.put_flags.Goals as goal

pub returns : goal.returns
returns g c =
    let body = body_at c.args.names.now.schema.now c.args.names.now.enumeration.0 in
    let name = name_numbered body in
    let bits = bits_of c.args.number in
    let named : are_flags body bits ≡ true = search rules in
    let lowest = rw (to_z-of_z w128 c.args.number c.ranges.number) at c.bits_of.ensures in
    let low = ap (λ n. bits_text name 64 1 n false) lowest ∙ low_written name 64 1 bits false in
    rw named (then c.put_str.ensures (then (added_as low c.put_bits.ensures) c.put_str-2.ensures))
