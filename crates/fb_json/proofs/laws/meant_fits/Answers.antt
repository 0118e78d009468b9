use Rattle.serde_json.specs.View.{view as tree_view}
use Rattle.fb_schema.specs.declared.kinds.Kind.TheVariants.{Table}
use Rattle.fb_schema.specs.declared.kinds.Shape.TheVariants.{One}
use Rattle.fb_json.proofs.laws.MeantValueIsWhole.{meant_whole}
use Rattle.fb_json.proofs.root.MeantValueFitsTheRoot.{root_fitted}
use Rattle.fb_json.proofs.texts.TreeTextsAreUtf8.{meant_utf8, tree_utf8}
use Rattle.fb_json.proofs.laws.meant_fits.Goals as goal

pub returns-clause-fits : goal.returns-clause-fits
returns-clause-fits c most unknown d h =
    let L = c.args.layout.now in
    root_fitted L c.layout_is_well_made.ensures.declared most unknown (tree_view c.args.tree.now) d h
    (meant_utf8 L unknown (tree_view c.args.tree.now) (One (Table (record { 0 = L.schema.root }))) d
    (tree_utf8 c.args.tree.now) h.0)

pub returns-clause-whole : goal.returns-clause-whole
returns-clause-whole c most unknown d h =
    meant_whole c.args.layout.now most unknown (tree_view c.args.tree.now) d h
