-- A long vector is noted run by run.
use Rattle.std.proofs.Common.{◌∙◌, ◌+◌, Some, Ok, Err, ap, sym, false, subst, arith, rules}
use Rattle.std.specs.List.{All}
use Rattle.std.proofs.lemmas.List.{take_rest}
use Rattle.std.proofs.lemmas.List.Elements.{All-drop}
use Rattle.std.proofs.lemmas.Result.{err_from_is_err_and}
use Rattle.serde_json.specs.Data.{no_items, item}
use Rattle.serde_json.specs.View.{items_view}
use Rattle.fb_layout.specs.Laid.{stored_kind}
use Rattle.fb_json.specs.Outcome.{spent}
use Rattle.fb_json.proofs.slots.OneSlotOrFieldMore.{counted}
use Rattle.fb_pieces.specs.declared.cut.Run.{Run}
use Rattle.fb_pieces.specs.CutTexts.{run_text}
use Rattle.fb_build.proofs.noted.PartsAreAdded.{adds_none}
use Rattle.fb_encode.proofs.excerpts.NotedOrRefused.{fault_then, found_holds, found_is_ok, if_found_both, if_found_then}
use Rattle.fb_encode.proofs.vectors.RunsAreNoted.{first_fails, none_noted, one_more_noted, run_fails}
use Rattle.fb_encode.proofs.vectors.RunsAreRead.{all_within, run_of_element, run_of_trees}
use Rattle.fb_encode.proofs.vectors.VectorIsNoted.{Refers, all_noted, vector_fails, vector_noted}
use Rattle.fb_encode.proofs.vectors.ElementsFollow.{one_element, targets_then}
use Rattle.fb_encode.specs.SlotTexts.{IsPieceOf}
use Rattle.fb_encode.specs.TreesNoted.{AddsTargets}
use Rattle.fb_encode.proofs.+reads.Goals as goal

pub element_noted : goal.vectors::note_element-returns-clause-noted
element_noted t c =
    let L = c.args.source.layout.now in
    let elements = c.args.elements in
    let wanted = c.element.ensures in
    let noted = rw (wanted.shape, wanted.place, wanted.levels, wanted.left) at c.note_excerpt-noted.ensures.noted in
    if_found_then c.after_step.result _ _ (λ found same.
    let h = found_holds c.note_excerpt-noted.result _ found same noted in (
      h.0,
      h.1,
      one_element L c.args.source.unknown elements.kind elements.place elements.levels c.args.after.left h.0 _ _ found
          h.2,
    )) c.after_step.ensures

pub lone_element_noted : goal.vectors::note_run-returns-then-reads_alone-clause-noted
lone_element_noted t c =
    let array = c.args.array in
    let piece = c.piece_of-text.ensures in
    if_found_then c.note_element.result _ _ (λ found h. (
      item h.0 no_items,
      record {
        read = run_of_element c.elements_make_the_array.ensures array.brackets (run_text array.text.now c.args.run)
            c.piece_of-text.result piece.text piece.brackets h.0 c.requires.some h.1;
        counted = sym c.if-run-eq1.true;
      },
      h.2,
    )) c.note_element.ensures.noted

pub run_noted : goal.vectors::note_run-returns-clause-noted
run_noted t c =
    let array = c.args.array in
    let trees = c.in_ok-trees.trees.now in
    let long = counted trees in
    let read = c.in_ok-trees.ensures in
    let tree = rw c.piece_of-text.ensures.text at c.in_ok-read.ensures in
    let is = run_of_trees c.text_is_read_without_brackets.ensures array.brackets (run_text array.text.now c.args.run)
    trees c.requires.brackets tree.utf8 (tree.tree ∙ ap Some read.are) read.some in
    if_found_then c.note_trees.result _ _ (λ found noted. (
      items_view trees,
      record { read = is; counted = long ∙ read.counted },
      rw long noted,
    )) c.note_trees.ensures.noted

pub no_run_yet : goal.vectors::note_runs-loop-i-init
no_run_yet t c =
    let L = c.args.source.layout.now in
    let elements = c.args.elements in
    let first = found_holds c.left_for-first.result _ _ c.in_ok-once_runs_read.ensures.same c.left_for-first.ensures in
    record {
      runs = none_noted L (AddsTargets L (stored_kind L.schema elements.kind)) c.args.source.unknown elements.kind
          elements.place elements.levels (spent (1 + c.in_ok-count.count) elements.place c.args.left)
          c.args.excerpt.brackets c.args.excerpt.text.now c.args.walk.now.noting.tape
          (adds_none c.args.walk.now.noting.tape c.requires.whole) _ first;
      opened = search rules;
    }

abbrev none : Run
none = record { elements = record { start = 0; end = 0 }; count = 0; is_last = false }

pub first_runs_within : goal.vectors::note_runs-once_runs_read-requires-clause-within
first_runs_within t c =
    let cut = rw c.in-Some.is at c.in_ok-cut.ensures in
    all_within c.args.excerpt.text.now c.as_slice-runs.result.now (rw c.as_slice-runs.ensures.value cut)

pub later_runs_within : goal.vectors::note_runs-once_runs_read-requires-in-loop-i-clause-within
later_runs_within t c =
    let runs = c.as_slice-runs.result.now in
    let text = c.args.excerpt.text.now in
    let cut = rw c.in-Some.is at c.in_ok-cut.ensures in
    subst (All (λ (run : Run). IsPieceOf text run.elements)) (sym (take_rest runs (c.loop-i.i + 1)))
    (All-drop (λ (run : Run). IsPieceOf text run.elements) (c.loop-i.i + 1) runs
    (all_within text runs (rw c.as_slice-runs.ensures.value cut)))

pub next_run_fits : goal.vectors::note_runs-note_run-noted-requires
next_run_fits t c =
    let runs = c.as_slice-runs.result.now in
    let text = c.args.excerpt.text.now in
    let cut = rw c.in-Some.is at c.in_ok-cut.ensures in
    let within = all_within text runs (rw c.as_slice-runs.ensures.value cut) in
    let adds = c.loop-i.invariant.runs.noted.adds in (
      omega (arith, c.decreases),
      (
        adds.layout ∙ c.requires.layout,
        (
          adds.whole,
          (
            c.requires.element,
            (
              c.requires.reference,
              (within c.loop-i.i none c.loop-i-test.true, (c.requires.some, c.requires.brackets)),
            ),
          ),
        ),
      ),
    )

pub next_run_noted : goal.vectors::note_runs-loop-i-preserved
next_run_noted t c =
    let source = c.args.source in
    let excerpt = c.args.excerpt in
    let elements = c.args.elements in
    let kind = stored_kind source.layout.now.schema elements.kind in
    let inv = c.loop-i.invariant in
    let read = c.in_ok-once_runs_read-2 in
    let is_ok = found_is_ok c.note_run-noted.result read.field-0 read.ensures.same in
    let h = rw is_ok at c.note_run-noted.ensures.noted in
    record {
      runs = one_more_noted source.layout.now (AddsTargets source.layout.now kind) source.unknown elements.kind
          elements.place elements.levels (spent (1 + c.in_ok-count.count) elements.place c.args.left) excerpt.brackets
          excerpt.text.now (targets_then source.layout.now kind) c.as_slice-runs.result.now c.loop-i.i none
          c.args.walk.now.noting.tape c.loop-i.walk.noting.tape c.note_run-noted.new.walk.noting.tape
          c.loop-i.after.left (Ok read.field-0) c.loop-i-test.true c.requires.some inv.runs h.0 h.1 h.2;
      opened = rw is_ok at c.note_run-noted.ensures.opened ∙ inv.opened;
    }

pub no_cells_for_the_vector : goal.vectors::note_runs-returns-in_err-once_runs_read-clause-noted
no_cells_for_the_vector t c =
    let source = c.args.source in
    let excerpt = c.args.excerpt in
    let elements = c.args.elements in
    let adds = AddsTargets source.layout.now (stored_kind source.layout.now.schema elements.kind) in
    let runs = c.as_slice-runs.result.now in
    let total = c.in_ok-count.count in
    let a = c.args.walk.now.noting.tape in
    let cut = rw c.in-Some.is at c.in_ok-cut.ensures in
    let e = c.in_err-once_runs_read in
    let residual = c.from_residual-in_err-once_runs_read in
    let p = err_from_is_err_and residual.result residual.ensures.1 in
    rw (p.1, p.2) (fault_then e.field-0.0 _ _ (λ f h.
    let first = found_holds c.left_for-first.result _ (Err f) h.0 c.left_for-first.ensures in
    vector_fails source.layout.now adds source.unknown elements.kind elements.place elements.levels c.args.left
    excerpt.brackets excerpt.text.now total runs a a c.cut_array_is_read.ensures c.cut_array_is_utf8.ensures
    (rw c.as_slice-runs.ensures.value cut) c.requires.some c.in_ok-count.ensures.all c.in_ok-count.ensures.some a a f
    (first_fails source.layout.now adds source.unknown elements.kind elements.place elements.levels
    (spent (1 + total) elements.place c.args.left) excerpt.brackets excerpt.text.now runs a
    (adds_none a c.requires.whole) f first c.requires.some h.1))
    (if_found_both (Err e.field-0.0) _ _ e.ensures.same e.ensures.read))

pub run_fault_refused : goal.vectors::note_runs-returns-in_err-once_runs_read-2-clause-noted
run_fault_refused t c =
    let source = c.args.source in
    let excerpt = c.args.excerpt in
    let elements = c.args.elements in
    let kind = stored_kind source.layout.now.schema elements.kind in
    let adds = AddsTargets source.layout.now kind in
    let runs = c.as_slice-runs.result.now in
    let total = c.in_ok-count.count in
    let a = c.args.walk.now.noting.tape in
    let b = c.note_run-noted.new.walk.noting.tape in
    let cut = rw c.in-Some.is at c.in_ok-cut.ensures in
    let e = c.in_err-once_runs_read-2 in
    let residual = c.from_residual-in_err-once_runs_read-2 in
    let p = err_from_is_err_and residual.result residual.ensures.1 in
    rw (p.1, p.2) (fault_then e.field-0.0 _ _ (λ f h.
    let run = found_holds c.note_run-noted.result _ (Err f) h.0 c.note_run-noted.ensures.noted in
    vector_fails source.layout.now adds source.unknown elements.kind elements.place elements.levels c.args.left
    excerpt.brackets excerpt.text.now total runs a b c.cut_array_is_read.ensures c.cut_array_is_utf8.ensures
    (rw c.as_slice-runs.ensures.value cut) c.requires.some c.in_ok-count.ensures.all c.in_ok-count.ensures.some a b f
    (run_fails source.layout.now adds source.unknown elements.kind elements.place elements.levels
    (spent (1 + total) elements.place c.args.left) excerpt.brackets excerpt.text.now (targets_then source.layout.now kind)
    runs c.loop-i.i none a c.loop-i.walk.noting.tape b c.loop-i.after.left f c.loop-i-test.true c.requires.some
    c.loop-i.invariant.runs run.0 run.1 run.2 (rw (take_rest runs (c.loop-i.i + 1)) at h.1)))
    (if_found_both (Err e.field-0.0) _ _ e.ensures.same e.ensures.read))

pub references_add : goal.vectors::note_runs-returns-clause-noted
references_add t c =
    let source = c.args.source in
    let excerpt = c.args.excerpt in
    let elements = c.args.elements in
    let adds = AddsTargets source.layout.now (stored_kind source.layout.now.schema elements.kind) in
    let runs = c.as_slice-runs.result.now in
    let total = c.in_ok-count.count in
    let a = c.args.walk.now.noting.tape in
    let b = c.loop-i.walk.noting.tape in
    let rest = c.loop-i.after.left in
    let cut = rw c.in-Some.is at c.in_ok-cut.ensures in
    let all = all_noted source.layout.now adds source.unknown elements.kind elements.place elements.levels c.args.left
    excerpt.brackets excerpt.text.now total runs a b c.loop-i.i (Ok rest) c.loop-i-test.false c.loop-i.invariant.runs in
    let same = all.noted.adds.layout ∙ c.requires.layout in
    let pushed = c.in_ok-push_references.ensures in
    let refers = subst (Refers elements.kind total b c.push_references.new.self) same pushed.waits in
    vector_noted source.layout.now source.unknown elements.kind elements.place elements.levels c.args.left
    excerpt.brackets excerpt.text.now total runs a b c.push_references.new.self rest c.requires.element
    c.cut_array_is_read.ensures c.cut_array_is_utf8.ensures (rw c.as_slice-runs.ensures.value cut) c.requires.some
    c.in_ok-count.ensures.all c.in_ok-count.ensures.some refers (rw same at pushed.room) pushed.layout pushed.whole all
