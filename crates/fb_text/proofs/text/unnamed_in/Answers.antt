use Rattle.std.proofs.Common.{Some, refl}
use Rattle.fb_json.specs.Meant.{type_place}
use Rattle.fb_text.proofs.texts.WholeWhereEachUnionIsNamed.{whole_named}
use Rattle.fb_text.proofs.text.unnamed_in.Goals as goal

pub returns-then-is_known_whole : goal.returns-then-is_known_whole
returns-then-is_known_whole c d lies =
    whole_named (type_place c.args.view.now.table.0) d (c.is_known_whole.ensures c.if-is_known_whole.true d lies)

pub returns : goal.returns
returns c d lies =
    rw c.type_id.ensures at (c.first_unnamed.ensures c.args.view.now.layout.now (Some d) (refl, d, refl, lies))
