use Rattle.std.proofs.Common.{rules, ◌≡◌, ◌∙◌, ◌-◌, ◌<◌, ◌∷◌, ap, arith}
use Rattle.std.proofs.lemmas.Result.{MatchResult-from_err}
use Rattle.json.specs.Token.{begin_array}
use Rattle.json.specs.Reads.{token_of}
use Rattle.fb_pieces.proofs.json_texts.ArrayIsReadByItsElements.{array_or_none, opens_array}
use Rattle.fb_pieces.proofs.json_texts.skip_array.Goals as goal

pub returns-in_err-inner : goal.returns-in_err-inner
returns-in_err-inner c =
    let none : c.args.levels ≡ 0 = grind arith in
    MatchResult-from_err _ _ _ c.from_residual.ensures.0 (λ e js us is.
    let opened = opens_array c.args.levels c.args.reader.now js us is in
    absurd (omega (arith, none, opened.0)))

pub returns-in_default : goal.returns-in_default
returns-in_default c = λ js us is.
    let opened = opens_array c.args.levels c.args.reader.now js us is in
    absurd (search rules)

pub returns-in_default-2 : goal.returns-in_default-2
returns-in_default-2 c = λ js us is.
    let opened = opens_array c.args.levels c.args.reader.now js us is in
    absurd (search rules)

pub returns : goal.returns
returns c =
    let rest = c.next.new.self in
    let inner : c.in_ok-inner.inner ≡ c.args.levels - 1 = grind arith in
    let low : 0 < c.args.levels = grind arith in
    let first : c.args.reader.now ≡ begin_array ∷ rest =
    c.in-Some-BeginArray.ensures.value ∙ ap (λ k. token_of k ∷ rest) c.in-Some-BeginArray.field-0-is in
    array_or_none c.args.levels c.args.reader.now rest low first c.skip_elements.new.reader c.skip_elements.result
    (rw inner at c.skip_elements.ensures)
