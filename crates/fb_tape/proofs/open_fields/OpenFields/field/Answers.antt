use Rattle.fb_tape.proofs.open_fields.FieldsStandInTurn.{found_field, field_is}
use Rattle.fb_tape.proofs.open_fields.OpenFields.field.Goals as goal

pub returns : goal.returns
returns c =
    let bytes = c.self.inside.bytes.items in
    let held = c.self.inside.fields.items in
    let at = found_field bytes held c.args.self.now c.args.index c.index.result.now c.self.view_is c.requires.within
    c.index.ensures in
    record { is = (bytes, field_is bytes held c.args.self.now c.args.index c.index.result.now c.self.view_is at) }
