use Rattle.std.proofs.Common.{pos, arith}
use Rattle.std.proofs.lemmas.Int.{ints}
use Rattle.fb_schema.specs.declared.kinds.Base.TheVariants.{U8}
use Rattle.fb_tape.proofs.inline_bytes.InlineKindsAreNumbersOrStructs.{same_wide}
use Rattle.fb_tape.proofs.open_fields.OpenFields.push_code.Goals as goal

pub returns-clause-adds : goal.returns-clause-adds
returns-clause-adds c L =
    let same = same_wide U8 (pos c.args.code) (omega (arith, ints), omega (arith, ints)) in
    rw (c.from.ensures, same) at c.push_number.ensures.adds L
