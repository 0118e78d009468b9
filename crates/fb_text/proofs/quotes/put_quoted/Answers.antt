use Rattle.std.proofs.Common.{◌≡◌, refl}
use Rattle.json.specs.Print.{escape, quoted}
use Rattle.fb_text.specs.Texts.{in_quotes}
use Rattle.fb_text.proofs.noted.PiecesAddUp.{added_as}
use Rattle.fb_text.proofs.quotes.put_quoted.Goals as goal

pub returns-then-needs_no_escape : goal.returns-then-needs_no_escape
returns-then-needs_no_escape g c =
    let content = c.args.content.now in
    let plain : escape content ≡ content =
    rw (c.as_bytes.ensures.value, c.if-needs_no_escape.true) at c.needs_no_escape.ensures in
    let same : in_quotes content ≡ quoted content = rw plain refl in
    added_as same c.put_in_quotes.ensures

pub returns : goal.returns
returns g c = rw c.as_bytes-2.ensures.value at c.put_escaped_in_quotes.ensures
