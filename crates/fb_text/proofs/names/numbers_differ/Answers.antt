use Rattle.fb_text.proofs.names.NameAtItsPlace.{numbers_differ}
use Rattle.fb_text.proofs.names.numbers_differ.Goals as goal

pub returns : goal.returns
returns c = numbers_differ c.args.schema.now c.args.enumeration.0 c.types-types.ensures.declared
