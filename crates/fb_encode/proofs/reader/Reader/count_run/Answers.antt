use Rattle.std.proofs.Common.{rules, [], ◌≡◌, ◌∙◌}
use Rattle.fb_pieces.specs.Texts.{array_text}
use Rattle.fb_encode.proofs.reader.RunIsCounted.{run_is_counted}
use Rattle.fb_encode.proofs.reader.Reader.count_run.Goals as goal

pub returns-in-Some : goal.returns-in-Some
returns-in-Some c =
    let whole : c.as_slice.result.now ≡ array_text c.args.text.now [] =
    c.as_slice.ensures.value ∙ c.in_ok-put_in_brackets.ensures in
    run_is_counted c.args.brackets c.in-Some.count c.args.text.now
    (rw whole at (c.in_ok-count.ensures c.in-Some.count).0 c.in-Some.is) (search rules)
