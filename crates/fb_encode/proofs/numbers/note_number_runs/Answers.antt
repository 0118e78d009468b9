use Rattle.std.proofs.Common.{◌∙◌, ◌+◌, Ok, Err, false, subst, sym, rules}
use Rattle.std.specs.List.{All}
use Rattle.std.proofs.lemmas.List.{take_rest}
use Rattle.std.proofs.lemmas.List.Elements.{All-drop}
use Rattle.std.proofs.lemmas.Result.{err_from_is_err_and}
use Rattle.fb_layout.specs.Laid.{stored_kind}
use Rattle.fb_json.specs.Outcome.{spent}
use Rattle.fb_pieces.specs.declared.cut.Run.{Run}
use Rattle.fb_encode.proofs.elements.InlineVectorIsNoted.{Begins, Closes, inline_none, inline_then}
use Rattle.fb_encode.proofs.excerpts.NotedOrRefused.{fault_then, found_holds, found_is_ok, if_found_both}
use Rattle.fb_encode.proofs.vectors.RunsAreNoted.{first_fails, none_noted, one_more_noted, run_fails}
use Rattle.fb_encode.proofs.vectors.RunsAreRead.{all_within}
use Rattle.fb_encode.proofs.vectors.VectorIsNoted.{all_noted, inline_noted, vector_fails}
use Rattle.fb_encode.specs.SlotTexts.{IsPieceOf}
use Rattle.fb_encode.specs.TreesNoted.{AddsInline}
use Rattle.fb_encode.proofs.numbers.note_number_runs.Goals as goal

abbrev none : Run
none = record { elements = record { start = 0; end = 0 }; count = 0; is_last = false }

pub once_runs_read-requires-clause-within : goal.once_runs_read-requires-clause-within
once_runs_read-requires-clause-within c =
    let cut = rw c.in-Some.is at c.in_ok-cut.ensures in
    all_within c.args.excerpt.text.now c.as_slice-runs.result.now (rw c.as_slice-runs.ensures.value cut)

pub once_runs_read-requires-in-loop-i-clause-within : goal.once_runs_read-requires-in-loop-i-clause-within
once_runs_read-requires-in-loop-i-clause-within c =
    let runs = c.as_slice-runs.result.now in
    let text = c.args.excerpt.text.now in
    let cut = rw c.in-Some.is at c.in_ok-cut.ensures in
    subst (All (λ (run : Run). IsPieceOf text run.elements)) (sym (take_rest runs (c.loop-i.i + 1)))
    (All-drop (λ (run : Run). IsPieceOf text run.elements) (c.loop-i.i + 1) runs
    (all_within text runs (rw c.as_slice-runs.ensures.value cut)))

pub loop-i-init : goal.loop-i-init
loop-i-init c =
    let source = c.args.source in
    let elements = c.args.elements in
    let L = source.layout.now in
    let kind = stored_kind L.schema elements.kind in
    let total = c.in_ok-count.count in
    let a = c.args.walk.now.noting.tape in
    let b = c.open_vector.new.self in
    let opened = c.in_ok-open_vector.ensures in
    let begins : Begins elements.kind total a b a.layout = record {
      waits = opened.waits;
      begun = opened.begun;
      room = opened.room;
      layout = c.open_vector.ensures.layout;
    } in
    let first = found_holds c.left_for-first.result _ _ c.in_ok-once_runs_read.ensures.same c.left_for-first.ensures in
    record {
      begun = b;
      begins = subst (Begins elements.kind total a b) c.requires.layout begins;
      runs = none_noted L (AddsInline L kind) source.unknown elements.kind elements.place elements.levels
          (spent (1 + total) elements.place c.args.left) c.args.excerpt.brackets c.args.excerpt.text.now b
          (inline_none L kind b) _ first;
      opened = search rules;
    }

pub push_run-added-requires : goal.push_run-added-requires
push_run-added-requires c =
    let runs = c.as_slice-runs.result.now in
    let text = c.args.excerpt.text.now in
    let cut = rw c.in-Some.is at c.in_ok-cut.ensures in
    let within = all_within text runs (rw c.as_slice-runs.ensures.value cut) in
    let inv = c.loop-i.invariant in
    record {
      layout = inv.runs.noted.adds.layout ∙ inv.begins.layout ∙ c.requires.layout;
      inline = c.requires.inline;
      element = c.requires.element;
      within = within c.loop-i.i none c.loop-i-test.true;
      some = c.requires.some;
      brackets = c.requires.brackets;
    }

pub loop-i-preserved : goal.loop-i-preserved
loop-i-preserved c =
    let source = c.args.source in
    let excerpt = c.args.excerpt in
    let elements = c.args.elements in
    let L = source.layout.now in
    let kind = stored_kind L.schema elements.kind in
    let inv = c.loop-i.invariant in
    let read = c.in_ok-once_runs_read-2 in
    let is_ok = found_is_ok c.push_run-added.result read.field-0 read.ensures.same in
    let h = rw is_ok at c.push_run-added.ensures.added in
    record {
      begun = inv.begun;
      begins = inv.begins;
      runs = one_more_noted L (AddsInline L kind) source.unknown elements.kind elements.place elements.levels
          (spent (1 + c.in_ok-count.count) elements.place c.args.left) excerpt.brackets excerpt.text.now
          (inline_then L kind) c.as_slice-runs.result.now c.loop-i.i none inv.begun c.loop-i.walk.noting.tape
          c.push_run-added.new.walk.noting.tape c.loop-i.after.left (Ok read.field-0) c.loop-i-test.true
          c.requires.some inv.runs h.0 h.1 h.2;
      opened = rw is_ok at c.push_run-added.ensures.opened ∙ inv.opened;
    }

pub returns-in_err-once_runs_read-clause-noted : goal.returns-in_err-once_runs_read-clause-noted
returns-in_err-once_runs_read-clause-noted c =
    let source = c.args.source in
    let excerpt = c.args.excerpt in
    let elements = c.args.elements in
    let L = source.layout.now in
    let kind = stored_kind L.schema elements.kind in
    let adds = AddsInline L kind in
    let runs = c.as_slice-runs.result.now in
    let total = c.in_ok-count.count in
    let a = c.args.walk.now.noting.tape in
    let cut = rw c.in-Some.is at c.in_ok-cut.ensures in
    let e = c.in_err-once_runs_read in
    let residual = c.from_residual-in_err-once_runs_read in
    let p = err_from_is_err_and residual.result residual.ensures.1 in
    rw (p.1, p.2) (fault_then e.field-0.0 _ _ (λ f h.
    let first = found_holds c.left_for-first.result _ (Err f) h.0 c.left_for-first.ensures in
    vector_fails L adds source.unknown elements.kind elements.place elements.levels c.args.left excerpt.brackets
    excerpt.text.now total runs a a c.cut_array_is_read.ensures c.cut_array_is_utf8.ensures
    (rw c.as_slice-runs.ensures.value cut) c.requires.some c.in_ok-count.ensures.all c.in_ok-count.ensures.some a a f
    (first_fails L adds source.unknown elements.kind elements.place elements.levels
    (spent (1 + total) elements.place c.args.left) excerpt.brackets excerpt.text.now runs a (inline_none L kind a) f
    first c.requires.some h.1)) (if_found_both (Err e.field-0.0) _ _ e.ensures.same e.ensures.read))

pub returns-in_err-once_runs_read-2-clause-noted : goal.returns-in_err-once_runs_read-2-clause-noted
returns-in_err-once_runs_read-2-clause-noted c =
    let source = c.args.source in
    let excerpt = c.args.excerpt in
    let elements = c.args.elements in
    let L = source.layout.now in
    let kind = stored_kind L.schema elements.kind in
    let adds = AddsInline L kind in
    let runs = c.as_slice-runs.result.now in
    let total = c.in_ok-count.count in
    let inv = c.loop-i.invariant in
    let b = c.push_run-added.new.walk.noting.tape in
    let cut = rw c.in-Some.is at c.in_ok-cut.ensures in
    let e = c.in_err-once_runs_read-2 in
    let residual = c.from_residual-in_err-once_runs_read-2 in
    let p = err_from_is_err_and residual.result residual.ensures.1 in
    rw (p.1, p.2) (fault_then e.field-0.0 _ _ (λ f h.
    let run = found_holds c.push_run-added.result _ (Err f) h.0 c.push_run-added.ensures.added in
    vector_fails L adds source.unknown elements.kind elements.place elements.levels c.args.left excerpt.brackets
    excerpt.text.now total runs inv.begun b c.cut_array_is_read.ensures c.cut_array_is_utf8.ensures
    (rw c.as_slice-runs.ensures.value cut) c.requires.some c.in_ok-count.ensures.all c.in_ok-count.ensures.some b b f
    (run_fails L adds source.unknown elements.kind elements.place elements.levels
    (spent (1 + total) elements.place c.args.left) excerpt.brackets excerpt.text.now (inline_then L kind) runs
    c.loop-i.i none inv.begun c.loop-i.walk.noting.tape b c.loop-i.after.left f c.loop-i-test.true c.requires.some
    inv.runs run.0 run.1 run.2 (rw (take_rest runs (c.loop-i.i + 1)) at h.1))) (if_found_both (Err e.field-0.0) _ _ e.ensures.same e.ensures.read))

pub returns-clause-noted : goal.returns-clause-noted
returns-clause-noted c =
    let source = c.args.source in
    let excerpt = c.args.excerpt in
    let elements = c.args.elements in
    let L = source.layout.now in
    let adds = AddsInline L (stored_kind L.schema elements.kind) in
    let runs = c.as_slice-runs.result.now in
    let total = c.in_ok-count.count in
    let inv = c.loop-i.invariant in
    let b = c.loop-i.walk.noting.tape in
    let d = c.close_vector.new.self in
    let rest = c.loop-i.after.left in
    let cut = rw c.in-Some.is at c.in_ok-cut.ensures in
    let all = all_noted L adds source.unknown elements.kind elements.place elements.levels c.args.left
    excerpt.brackets excerpt.text.now total runs inv.begun b c.loop-i.i (Ok rest) c.loop-i-test.false inv.runs in
    let closed = c.in_ok-close_vector.ensures in
    let closes : Closes elements.kind total b d b.layout = record {
      waits = closed.waits;
      room = closed.room;
      whole = closed.whole;
      layout = c.close_vector.ensures.layout;
    } in
    let same = all.noted.adds.layout ∙ inv.begins.layout ∙ c.requires.layout in
    inline_noted L source.unknown elements.kind elements.place elements.levels c.args.left excerpt.brackets
    excerpt.text.now total runs inv.begun b d rest c.requires.element c.cut_array_is_read.ensures
    c.cut_array_is_utf8.ensures (rw c.as_slice-runs.ensures.value cut) c.requires.some c.in_ok-count.ensures.all
    c.in_ok-count.ensures.some c.args.walk.now.noting.tape c.requires.inline inv.begins
    (subst (Closes elements.kind total b d) same closes) all
