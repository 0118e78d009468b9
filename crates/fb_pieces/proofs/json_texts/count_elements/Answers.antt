use Rattle.std.proofs.Common.{rules, ◌≡◌, ◌∙◌, ◌<◌, [], true, ap, length, Some, arith}
use Rattle.json.specs.Lex.{tokens}
use Rattle.fb_pieces.specs.JsonTexts.{IsArrayPassed, are_in_range}
use Rattle.fb_pieces.proofs.json_texts.TextHasFewTokens.{few_tokens}
use Rattle.fb_pieces.proofs.json_texts.ArrayIsReadByItsElements.{array_is_read, read_array, whole_array}
use Rattle.fb_pieces.proofs.json_texts.count_elements.Goals as goal
use Rattle.fb_pieces.proofs.json_texts.count_elements.Goals.{then-is_some-via-then-is_some}
use Rattle.fb_pieces.proofs.json_texts.count_elements.Goals.{then-is_some-via-else-is_some+in_ok-new+then-not-are_numbers_in_range}

pub skip_array-requires : goal.skip_array-requires
skip_array-requires c =
    let whole : c.in_ok-reader.reader ≡ tokens c.args.text.now = search rules in
    let few : length c.args.text.now < 18446744073709551616 = omega arith in
    record { few = rw whole (omega (arith, few, few_tokens c.args.text.now)) }

pub returns-in_default-skip_array : goal.returns-in_default-skip_array
returns-in_default-skip_array c = λ n. (
  (λ none. absurd cc),
  (λ is.
      let whole : c.in_ok-reader.reader ≡ tokens c.args.text.now = search rules in
      let array = read_array c.args.levels c.args.text.now is.0 is.1.read in
      absurd (rw whole at c.in_default-skip_array.ensures array.js [] array.passed)),
)

pub returns-then-is_some : goal.returns-then-is_some
returns-then-is_some c = λ n. (
  (λ none. absurd cc),
  (λ is.
      let whole : c.in_ok-reader.reader ≡ tokens c.args.text.now = search rules in
      let passed : IsArrayPassed c.args.levels (tokens c.args.text.now) c.skip_array.new.reader c.in-Ok-skip_array.count =
      rw whole at c.in-Ok-skip_array.ensures in
      let read = is.1.read in
      let ended = (whole_array c.args.levels _ c.args.text.now _ is.0 passed read).0 in
      let range = (read_array c.args.levels c.args.text.now is.0 read).range in
      absurd (elim c.then-is_some.branch [
        | then-is_some-via-then-is_some w ↦ search rules
        | then-is_some-via-else-is_some+in_ok-new+then-not-are_numbers_in_range w ↦ search rules
      ])),
)

pub returns : goal.returns
returns c = λ n. (
  (λ same.
      let whole : c.in_ok-reader.reader ≡ tokens c.args.text.now = search rules in
      let ended : c.skip_array.new.reader ≡ [] = search rules in
      let passed : IsArrayPassed c.args.levels (tokens c.args.text.now) [] c.in-Ok-skip_array.count =
      rw (ended, whole) at c.in-Ok-skip_array.ensures in
      let range : are_in_range (tokens c.args.text.now) ≡ true = search rules in
      let found = array_is_read c.args.levels c.in-Ok-skip_array.count c.args.text.now passed range in
      let number : n ≡ c.in-Ok-skip_array.count = cc in
      (found.0, record { utf8 = search rules; read = found.1 }, number ∙ found.2)),
  (λ is.
      let whole : c.in_ok-reader.reader ≡ tokens c.args.text.now = search rules in
      let passed : IsArrayPassed c.args.levels (tokens c.args.text.now) c.skip_array.new.reader c.in-Ok-skip_array.count =
      rw whole at c.in-Ok-skip_array.ensures in
      let all = (whole_array c.args.levels _ c.args.text.now _ is.0 passed is.1.read).1 in
      let number : c.in-Ok-skip_array.count ≡ n = cc in
      ap Some number),
)
