use Rattle.fb_declare.proofs.SchemaTextHasOneLayout.{same_accepted}
use Rattle.fb_declare.proofs.laws.text_has_one_layout.Goals as goal

pub returns : goal.returns
returns c = same_accepted c.schema_laws.ensures.laws
