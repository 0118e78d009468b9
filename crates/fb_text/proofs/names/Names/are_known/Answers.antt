use Rattle.std.proofs.lemmas.Bool.{eqb-true}
use Rattle.fb_schema.specs.Schema.{body_at}
use Rattle.fb_schema.specs.Found.{name_numbered}
use Rattle.fb_text.proofs.flags.LowBitsAreNamed.{few_bits, low_bits_named}
use Rattle.fb_text.proofs.names.Names.are_known.Goals as goal

pub returns : goal.returns
returns c known =
    let names = c.args.self.now in
    let name = name_numbered (body_at names.schema.now names.enumeration.0) in
    low_bits_named name names.named names.known c.args.bits (few_bits c.args.bits names.named (eqb-true _ 0 known))
