use Rattle.std.proofs.Common.{◌∙◌, sym}
use mir.Facts.{to_z-of_z}
use Rattle.fb_tape.proofs.inline_bytes.NumberStandsInItsBytes.{number_added}
use Rattle.fb_tape.proofs.inline_bytes.push_number.Goals as goal

pub returns-clause-adds : goal.returns-clause-adds
returns-clause-adds c L =
    number_added c.push_few.result L c.args.base _ c.bits_of-bits.result c.from.result _ c.write_u64.new.buf
    c.push_few.new.bytes.items c.bits_of-bits.ensures.fits
    (sym (to_z-of_z c.ranges.number) ∙ c.bits_of-bits.ensures.means) c.bits_of-bits.ensures.bit c.write_u64.ensures
    (c.from.ensures ∙ c.size.ensures) c.push_few.ensures.items
