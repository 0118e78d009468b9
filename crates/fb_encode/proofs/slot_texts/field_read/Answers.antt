use Rattle.std.proofs.Common.{◌∙◌, ap, sym}
use Rattle.fb_schema.specs.Found.{field_named}
use Rattle.fb_schema.specs.Schema.{DeclaredSchema, body_at}
use Rattle.fb_encode.proofs.slot_texts.PiecesAreRead.{name_is, name_is_read}
use Rattle.fb_encode.proofs.slot_texts.field_read.Goals as goal

pub returns-clause-name : goal.returns-clause-name
returns-clause-name c =
    name_is_read c.args.name.brackets c.args.name.text.now c.in-Some.name.now
    ((rw c.in-Some.is at c.in_ok-name.ensures) c.args.name.brackets)

pub returns-clause-field : goal.returns-clause-field
returns-clause-field c =
    let S = c.args.source.layout.now.schema in
    let t = c.args.owner.0 in
    let is = name_is c.args.name.brackets c.args.name.text.now c.in-Some.name.now
    ((rw c.in-Some.is at c.in_ok-name.ensures) c.args.name.brackets) in
    c.field_by_name.ensures
    ∙ (ap (λ (s : DeclaredSchema). field_named (body_at s t) c.in-Some.name.now) c.schema.ensures.schema
    ∙ ap (field_named (body_at S t)) (sym is))
