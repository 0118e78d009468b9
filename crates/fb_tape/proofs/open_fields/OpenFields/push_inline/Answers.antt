use Rattle.std.proofs.Common.{OnOk}
use Rattle.fb_layout.specs.Seen.{kind_seen}
use Rattle.fb_tape.specs.OpenFields.{AddsInlineField}
use Rattle.fb_tape.proofs.inline_bytes.InlineKindsAreNumbersOrStructs.{number_seen}
use Rattle.fb_tape.proofs.open_fields.OpenFields.push_inline.Goals as goal

pub returns-in-Number-Some-default-clause-adds : goal.returns-in-Number-Some-default-clause-adds
returns-in-Number-Some-default-clause-adds c =
    let arm = c.in-Number-Some-default in
    number_seen c.args.layout.now (kind_seen c.args.layout.now c.args.kind) arm.base c.args.value.now arm.number
    (λ kind d. OnOk c.push_number.result
    (AddsInlineField c.args.layout.now c.args.slot kind d c.args.self.now c.push_number.new.self))
    c.requires.inline arm.ensures arm.is-0 c.requires.fits (c.push_number.ensures.adds c.args.layout.now)
