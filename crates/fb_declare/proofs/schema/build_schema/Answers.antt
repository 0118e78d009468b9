use Rattle.std.proofs.Common.{rules}
use Rattle.fb_schema.specs.Seen.{schema_of}
use Rattle.fb_declare.proofs.Kept.{kept}
use Rattle.fb_declare.proofs.schema.build_schema.Goals as goal

pub new-requires : goal.new-requires
new-requires c = kept c.args.resolved.outline.now
    (schema_of c.in_ok-types.types.items c.in-Some.root c.identifier_of.result) c.requires (search rules)
