use Rattle.std.proofs.Common.{rules, true, ap, sym, is_some, ◌∙◌, length, drop, ◌-◌}
use Rattle.std.proofs.lemmas.List.{take_all}
use Rattle.serde_json.specs.Read.{number_from, number_of}
use Rattle.fast_float.specs.Text.{scan}
use Rattle.fb_pieces.proofs.json_texts.NumberIsReadByItsSign.{with_minus, without_minus}
use Rattle.fb_pieces.proofs.json_texts.is_number_in_range.Goals as goal

-- src/json_texts.rt:33:1
pub returns-then-is_negative : goal.returns-then-is_negative
returns-then-is_negative c =
    let bytes = c.as_bytes-bytes.result.now in
    let h = with_minus bytes (search rules) in
    let all = take_all (length bytes - 1) (drop 1 bytes) (search rules) in
    c.is_negative_in_range.ensures ∙ ap (λ p. is_some (number_from true p)) (c.scan.ensures.parts ∙ ap scan all)
    ∙ sym (ap is_some h) ∙ ap (λ s. is_some (number_of s)) c.as_bytes-bytes.ensures.value

-- src/json_texts.rt:33:1
pub returns-else-is_negative : goal.returns-else-is_negative
returns-else-is_negative c = let h = without_minus c.args.number.now (search rules) in search rules
