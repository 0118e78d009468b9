use Rattle.std.proofs.Common.{◌∙◌, inl, inr, sym, ap}
use Rattle.serde_json.specs.View.{view as tree_view}
use Rattle.fb_schema.specs.Schema.{DeclaredSchema}
use Rattle.fb_json.proofs.slots.OneSlotOrFieldMore.{failed}
use Rattle.fb_encode.proofs.trees.RootIsNoted.{at_root, root_noted}
use Rattle.fb_encode.proofs.trees.note_root.Goals as goal

pub returns-clause-first : goal.returns-clause-first
returns-clause-first c =
    let L = c.args.source.layout.now in
    let t = tree_view c.args.tree.now in
    let root = c.root-root.ensures ∙ ap (λ (s : DeclaredSchema). s.root) c.schema.ensures.schema in
    let same = at_root L c.args.limits c.args.source.unknown t c.root-root.result.0 c.most_depth-levels.result
    c.most_cells-cells.result root c.most_depth-levels.ensures.exact c.most_cells-cells.ensures in
    elim (failed c.in-Err.fault _ c.in-Err.ensures.refused) [
      | inl m ↦ inl m
      | inr h ↦ inr (sym same ∙ h)
    ]

pub returns-in-Ok-clause-noted : goal.returns-in-Ok-clause-noted
returns-in-Ok-clause-noted c =
    let L = c.args.source.layout.now in
    let t = tree_view c.args.tree.now in
    let root = c.root-root.ensures ∙ ap (λ (s : DeclaredSchema). s.root) c.schema.ensures.schema in
    let noted = c.in-Ok.ensures.noted in
    root_noted L c.args.limits c.args.source.unknown t c.root-root.result.0 c.most_depth-levels.result
    c.most_cells-cells.result root c.most_depth-levels.ensures.exact c.most_cells-cells.ensures _ _ _ c.requires.layout
    c.requires.waits c.requires.room noted c.only_what_is_meant.ensures c.schema.ensures.made
