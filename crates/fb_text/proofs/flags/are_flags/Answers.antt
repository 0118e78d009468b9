use Rattle.std.proofs.Common.{rules, pos, ◌<ℤ◌, ap, ◌∙◌}
use Rattle.std.proofs.lemmas.Int.{to_z-of_z}
use mir.Syntax.{w128}
use Rattle.fb_schema.specs.Schema.{body_at}
use Rattle.fb_schema.specs.Found.{name_numbered}
use Rattle.fb_text.specs.Texts.{are_named, bits_of}
use Rattle.fb_text.proofs.flags.LowBits.{some_bits, low_named}
use Rattle.fb_text.proofs.flags.are_flags.Goals as goal

pub returns-then-number-gt0 : goal.returns-then-number-gt0
returns-then-number-gt0 c =
    let number = c.args.number in
    let name = name_numbered (body_at c.args.names.now.schema.now c.args.names.now.enumeration.0) in
    let above : pos 0 <ℤ number = search rules in
    let bits = rw (to_z-of_z w128 number c.ranges.number) at c.bits_of.ensures in
    rw (some_bits number above)
    (c.have_names.ensures ∙ (ap (are_named name 64 1) bits ∙ low_named name 64 1 (bits_of number)))
