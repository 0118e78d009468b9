use Rattle.std.proofs.Common.{◌∙◌, ap, sym, Vec, Global}
use Rattle.serde_json.specs.View.{view as tree_view}
use Rattle.fb_schema.specs.Schema.{DeclaredSchema}
use Rattle.fb_value.specs.View.{view}
use Rattle.fb_json.specs.declared.step.JsonStep.{JsonStep}
use Rattle.fb_json.specs.FaultPaths.{LeadsToFirst, tree_spot}
use Rattle.fb_json.proofs.root.RootMeaningDecides.{at_root, from_root, means_root}
use Rattle.fb_json.proofs.tree.TrailLeadsToTheFault.{fault_given, kept_steps}
use Rattle.fb_json.proofs.paths.fault_path.Goals as goal

pub returns-in_default : goal.returns-in_default
returns-in_default c = (
  view c.in_default.field-0.0,
  means_root c.args.layout.now c.args.limits c.args.unknown (tree_view c.args.tree.now) (view c.in_default.field-0.0)
      c.in_default.field-0.1 (sym (at_root c.args.layout.now c.args.limits c.args.unknown c.root-owner.result
      c.most_depth.result
      c.most_cells.result (c.root-owner.ensures ∙ ap (λ (s : DeclaredSchema). s.root) c.schema.ensures.schema)
      c.most_depth.ensures.exact c.most_cells.ensures (tree_view c.args.tree.now))
      ∙ c.in_default.ensures.gives),
)

pub returns-in_default-fault : goal.returns-in_default-fault
returns-in_default-fault c =
    let L = c.args.layout.now in
    let t = tree_view c.args.tree.now in
    let kept = c.in_default-fault.not-Memory in
    let first = sym (at_root c.args.layout.now c.args.limits c.args.unknown c.root-owner.result
    c.most_depth.result c.most_cells.result
    (c.root-owner.ensures ∙ ap (λ (s : DeclaredSchema). s.root) c.schema.ensures.schema) c.most_depth.ensures.exact
    c.most_cells.ensures t) ∙ fault_given c.in-Err.fault _ c.in-Err.ensures.gives kept in
    let found = c.in-Err.ensures.trail kept in
    let path = rw (from_root c.args.layout.now c.args.limits c.args.unknown c.root-owner.result
    c.most_depth.result c.most_cells.result
    (c.root-owner.ensures ∙ ap (λ (s : DeclaredSchema). s.root) c.schema.ensures.schema) c.most_depth.ensures.exact
    c.most_cells.ensures (tree_spot t)) at found.2 in
    kept_steps _ (λ (v : Vec JsonStep Global). v.items) c.into_steps.result c.new-trail.result c.value.new.trail
    (LeadsToFirst L c.args.limits c.args.unknown t) c.new-trail.ensures c.into_steps.ensures found.0 found.1
    (c.in-Err.fault, first, path)
