use Rattle.fb_syntax.proofs.ReadsAs.{reads_found, one_reading_shown}
use Rattle.fb_syntax.proofs.parser.schema.declarations_of.Goals as goal

pub returns-in-Ok-clause-exact : goal.returns-in-Ok-clause-exact
returns-in-Ok-clause-exact c =
    let found = reads_found c.args.text.now c.args.tokens.now c.in-Ok.declarations.items c.items.new.self
    c.in-Ok.ensures.exact in
    λ d reads. (one_reading_shown c.args.text.now c.args.tokens.now _ d found reads)
