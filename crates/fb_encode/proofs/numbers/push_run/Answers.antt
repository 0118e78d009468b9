use Rattle.std.proofs.Common.{◌≡◌, ◌∙◌, Some, ap, sym}
use Rattle.serde_json.specs.Data.{item, no_items}
use Rattle.serde_json.specs.View.{items_view, view as tree_view}
use Rattle.fb_layout.specs.Laid.{stored_kind}
use Rattle.fb_json.proofs.slots.OneSlotOrFieldMore.{counted}
use Rattle.fb_pieces.specs.CutTexts.{run_text}
use Rattle.fb_encode.specs.declared.excerpts.TextWalk.{TextWalk}
use Rattle.fb_encode.proofs.excerpts.NotedOrRefused.{if_found_then}
use Rattle.fb_encode.proofs.stand_ins.ValueIsNotedByItsStandIn.{element_by_stand_in}
use Rattle.fb_encode.proofs.vectors.RunsAreRead.{run_of_element, run_of_trees}
use Rattle.fb_encode.specs.TreesNoted.{AddsInline}
use Rattle.fb_encode.proofs.numbers.push_run.Goals.{then-run-eq1+in_ok-tree+in_default, else-run-eq1}
use Rattle.fb_encode.proofs.numbers.push_run.Goals as goal

pub returns-clause-added : goal.returns-clause-added
returns-clause-added c =
    let array = c.args.array in
    let trees = c.in_ok-trees.trees.now in
    let long = counted trees in
    let read = c.in_ok-trees.ensures in
    let text = c.piece_of-text.ensures.text in
    let is = run_of_trees c.text_is_read_without_brackets.ensures array.brackets (run_text array.text.now c.args.run)
    trees c.requires.brackets (rw text at c.in_ok-read.ensures.utf8)
    ((rw text at c.in_ok-read.ensures.tree) ∙ ap Some read.are) read.some in
    let same : c.if-run-eq1.walk.noting ≡ c.args.walk.now.noting = elim c.if-run-eq1.branch [
      | then-run-eq1+in_ok-tree+in_default w ↦ ap (λ (x : TextWalk). x.noting) w.walk-is
      | else-run-eq1 w ↦ ap (λ (x : TextWalk). x.noting) w.walk-is
    ] in
    if_found_then c.push_trees-2.result _ _ (λ found added. (
      items_view trees,
      record { read = is; counted = long ∙ read.counted },
      rw long added,
    )) (rw same at c.push_trees-2.ensures.added)

pub returns-in-Some-clause-added : goal.returns-in-Some-clause-added
returns-in-Some-clause-added c =
    let L = c.args.source.layout.now in
    let elements = c.args.elements in
    let kind = stored_kind L.schema elements.kind in
    let array = c.args.array in
    let piece = c.piece_of-text.ensures in
    let o = rw c.in-Some.is at c.in_ok-tree.ensures in
    let is = run_of_element c.elements_make_the_array.ensures array.brackets (run_text array.text.now c.args.run)
    c.piece_of-text.result piece.text piece.brackets o.tree c.requires.some o.read in
    if_found_then c.push_trees.result _ _ (λ found added. (
      item o.tree no_items,
      record { read = is; counted = sym c.if-run-eq1.true },
      element_by_stand_in L c.args.source.unknown o.tree (tree_view c.in-Some.tree) elements.kind elements.place
          elements.levels o.alike kind (AddsInline L kind) _ _ c.args.after.left found added,
    )) c.push_trees.ensures.added
