use Rattle.std.proofs.Common.{◌∙◌, false, sym, arith}
use Rattle.std.proofs.lemmas.List.{take_all}
use Rattle.std.proofs.lemmas.List.Elements.{All-more}
use Rattle.serde_json.specs.Data.{Items}
use Rattle.fb_pieces.specs.declared.cut.Run.{Run}
use Rattle.fb_encode.specs.TextsRead.{IsRunRead}
use Rattle.fb_encode.proofs.runs.check_runs.Goals as goal

pub loop-run-preserved : goal.loop-run-preserved
loop-run-preserved c =
    let array = c.args.array in
    let none : Run = record { elements = record { start = 0; end = 0 }; count = 0; is_last = false } in
    let read = rw c.piece_of-elements.ensures.text at c.in_ok-count_run.ensures in
    All-more (λ (r : Run). (ds : Items) × IsRunRead array.brackets array.text.now r ds) c.args.runs.now
    c.loop-run.run-index none c.loop-run-test.true c.loop-run.invariant (
      read.0,
      record { read = read.1; counted = sym read.2 ∙ c.if-branch-run.false },
    )

pub returns : goal.returns
returns c =
    rw (take_all c.loop-run.run-index c.args.runs.now (omega (arith, c.loop-run-test.false))) at c.loop-run.invariant
