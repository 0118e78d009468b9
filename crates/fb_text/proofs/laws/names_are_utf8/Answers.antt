use Rattle.std.proofs.Common.{◌∙◌, ap}
use Rattle.fb_schema.specs.Schema.{DeclaredSchema}
use Rattle.fb_text.proofs.texts.NamesAreUtf8.{schema_utf8}
use Rattle.fb_text.proofs.laws.names_are_utf8.Goals as goal

pub returns : goal.returns
returns c =
    let types = c.types-types.ensures.types ∙ ap (λ (s : DeclaredSchema). s.types) c.schema.ensures.schema in
    schema_utf8 c.args.layout.now.schema c.types-types.result.now types
