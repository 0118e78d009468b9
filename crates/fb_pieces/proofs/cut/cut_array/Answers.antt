use Rattle.std.proofs.Common.{◌+◌, sym, ◌∙◌}
use Rattle.std.proofs.lemmas.List.{take_rest}
use Rattle.fb_pieces.proofs.cut.PiecesFollowOneAnother.{runs_before_push, runs_with_last}
use Rattle.fb_pieces.proofs.cut.cut_array.Goals.{then-are_blanks, else-are_blanks}
use Rattle.fb_pieces.proofs.cut.cut_array.Goals as goal

pub returns-then-run : goal.returns-then-run
returns-then-run c =
    elim c.if-are_blanks.branch [
      | then-are_blanks w ↦ rw w.result-is (record {
        at = c.in-Some.opening;
        end = c.in-Some-run_before.run'.elements.end + 1;
        before = c.in-Some.ensures.opens;
        cut = rw c.in_ok-push.ensures.items
            (runs_with_last c.args.text.now (c.in-Some.opening + 1) c.loop-end.from c.loop-end.runs.items
            c.in-Some-run_before.run' c.loop-end.invariant c.in-Some-run_before.ensures.run c.if-run.true);
        after = rw take_rest at (sym c.are_blanks.ensures ∙ w.if-are_blanks.true);
      })
      | else-are_blanks w ↦ rw w.result-is tt
    ]

pub loop-end-preserved : goal.loop-end-preserved
loop-end-preserved c =
    rw c.in_ok-push.ensures.items
    (runs_before_push c.args.text.now (c.in-Some.opening + 1) c.loop-end.from c.loop-end.runs.items
    c.in-Some-run_before.run'
    c.loop-end.invariant c.in-Some-run_before.ensures.run c.if-run.false)
