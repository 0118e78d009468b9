use Rattle.fb_encode.proofs.reader.TextInBrackets.{utf8_within}
use Rattle.fb_encode.proofs.reader.Reader.read_in_brackets.Goals as goal

pub returns-in-Ok-clause-utf8 : goal.returns-in-Ok-clause-utf8
returns-in-Ok-clause-utf8 c =
    let whole = rw (c.as_slice.ensures.value, c.in_ok-put_in_brackets.ensures) at c.in-Ok.ensures.ok.0 in
    utf8_within c.args.brackets c.args.text.now whole
