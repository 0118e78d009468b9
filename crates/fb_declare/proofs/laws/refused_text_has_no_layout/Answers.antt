use Rattle.fb_declare.proofs.SchemaTextHasOneLayout.{refused_excludes}
use Rattle.fb_declare.proofs.laws.refused_text_has_no_layout.Goals as goal

pub returns : goal.returns
returns c = refused_excludes c.schema_laws.ensures.laws
