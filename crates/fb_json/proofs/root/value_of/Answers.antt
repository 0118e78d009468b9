use Rattle.std.proofs.Common.{◌≡◌, ◌∙◌, ◌⊎◌, inr, ap, sym}
use Rattle.fb_schema.specs.Schema.{DeclaredSchema}
use Rattle.serde_json.specs.View.{view as tree_view, members_view}
use Rattle.fb_value.specs.View.{view}
use Rattle.fb_json.specs.declared.faults.JsonFault.TheVariants.{WrongShape, Memory}
use Rattle.fb_json.specs.Means.{Means}
use Rattle.fb_json.specs.Meant.{type_place}
use Rattle.fb_json.specs.Refuses.{IsFirst}
use Rattle.fb_json.proofs.root.RootMeaningDecides.{means_root, none_means, or_memory, refused_root}
use Rattle.fb_json.proofs.root.RootMeaningDecides.{root_object, root_other, may_lack}
use Rattle.fb_json.proofs.slots.OneSlotOrFieldMore.{failed}
use Rattle.fb_json.proofs.texts.ValueTextsAreUtf8.{value_utf8}
use Rattle.fb_json.proofs.root.MeantValueFitsTheRoot.{root_fitted}
use Rattle.fb_json.proofs.laws.MeantValueIsWhole.{meant_whole}
use Rattle.fb_json.proofs.root.value_of.Goals as goal
use Rattle.fb_json.proofs.root.value_of.Goals.{In-Ok, In-Err, In_default}

means : (c : In-Ok)
    → Means c.args.layout.now c.args.limits c.args.unknown (tree_view c.args.tree.now) (view c.in-Ok.value)
means c = means_root c.args.layout.now c.args.limits c.args.unknown (tree_view c.args.tree.now) (view c.in-Ok.value)
    c.in-Ok.field-0-1 (sym (root_object c.args.layout.now c.args.limits c.args.unknown c.root-root.result
    c.most_depth.result
    c.most_cells.result (c.root-root.ensures ∙ ap (λ (s : DeclaredSchema). s.root) c.schema.ensures.schema)
    c.most_depth.ensures.exact c.most_cells.ensures (tree_view c.args.tree.now)
    (members_view c.in-Some.members.now.entries)
    c.in-Some.ensures) ∙ c.in-Ok.ensures.gives)

first : (c : In-Err) → (c.in-Err.fault ≡ Memory)
    ⊎ IsFirst c.args.layout.now c.args.limits c.args.unknown (tree_view c.args.tree.now) c.in-Err.fault
first c = failed c.in-Err.fault _
    (rw (← (root_object c.args.layout.now c.args.limits c.args.unknown c.root-root.result c.most_depth.result
    c.most_cells.result (c.root-root.ensures ∙ ap (λ (s : DeclaredSchema). s.root) c.schema.ensures.schema)
    c.most_depth.ensures.exact c.most_cells.ensures (tree_view c.args.tree.now)
    (members_view c.in-Some.members.now.entries) c.in-Some.ensures)) c.in-Err.ensures.gives)

pub returns-in-Ok-clause-means : goal.returns-in-Ok-clause-means
returns-in-Ok-clause-means c = means c

pub returns-in-Ok-clause-fits : goal.returns-in-Ok-clause-fits
returns-in-Ok-clause-fits c =
    root_fitted c.args.layout.now c.schema.ensures.made.declared c.args.limits c.args.unknown
    (tree_view c.args.tree.now) (view c.in-Ok.value) (means c) (value_utf8 c.in-Ok.value)

pub returns-in-Ok-clause-whole : goal.returns-in-Ok-clause-whole
returns-in-Ok-clause-whole c =
    meant_whole c.args.layout.now c.args.limits c.args.unknown (tree_view c.args.tree.now) (view c.in-Ok.value)
    (means c)

pub returns-in-Err-clause-first : goal.returns-in-Err-clause-first
returns-in-Err-clause-first c = first c

pub returns-in-Err-clause-refuses : goal.returns-in-Err-clause-refuses
returns-in-Err-clause-refuses c = or_memory (refused_root c.args.layout.now c.args.limits c.args.unknown
    (tree_view c.args.tree.now) c.in-Err.fault) (first c)

pub returns-in-Err-clause-none : goal.returns-in-Err-clause-none
returns-in-Err-clause-none c = or_memory (none_means c.args.layout.now c.args.limits c.args.unknown
    (tree_view c.args.tree.now) c.in-Err.fault) (first c)

pub returns-in-Err-clause-memory : goal.returns-in-Err-clause-memory
returns-in-Err-clause-memory c =
    may_lack c.args.limits (tree_view c.args.tree.now) (members_view c.in-Some.members.now.entries)
    c.most_depth.result c.most_cells.result c.in-Err.fault c.in-Some.ensures c.most_depth.ensures.exact
    c.most_cells.ensures c.in-Err.ensures.memory

other : (c : In_default) → IsFirst c.args.layout.now c.args.limits c.args.unknown (tree_view c.args.tree.now)
    (WrongShape (type_place c.root-root.result.0))
other c = root_other c.args.layout.now c.args.limits c.args.unknown c.root-root.result c.most_depth.result
    c.most_cells.result (c.root-root.ensures ∙ ap (λ (s : DeclaredSchema). s.root) c.schema.ensures.schema)
    c.most_depth.ensures.exact c.most_cells.ensures (tree_view c.args.tree.now)
    c.in_default.ensures

pub returns-in_default-clause-first : goal.returns-in_default-clause-first
returns-in_default-clause-first c = inr (other c)

pub returns-in_default-clause-refuses : goal.returns-in_default-clause-refuses
returns-in_default-clause-refuses c = inr (refused_root c.args.layout.now c.args.limits c.args.unknown
    (tree_view c.args.tree.now) (WrongShape (type_place c.root-root.result.0)) (other c))

pub returns-in_default-clause-none : goal.returns-in_default-clause-none
returns-in_default-clause-none c = inr (none_means c.args.layout.now c.args.limits c.args.unknown
    (tree_view c.args.tree.now) (WrongShape (type_place c.root-root.result.0)) (other c))
