use Rattle.std.proofs.Common.{◌≡◌, ◌∙◌, ◌<◌, ◌-◌, length, Some, None, arith}
use Rattle.json.specs.Json.{after_end_array, skip_value}
use Rattle.fb_pieces.proofs.json_texts.ArrayIsReadByItsElements.{all_passed, bad_element, none_passed, one_passed}
use Rattle.fb_pieces.proofs.json_texts.skip_elements.Goals as goal

pub loop-reader-init : goal.loop-reader-init
loop-reader-init c = (length c.args.reader.now, omega arith, none_passed _, omega arith)

pub loop-reader-preserved : goal.loop-reader-preserved
loop-reader-preserved c =
    let l = c.loop-reader in
    let n = l.invariant.0 in
    let going : (after_end_array l.reader ≡ None) × (c.take_end_array.new.self ≡ l.reader) = grind arith in
    let less : length c.skip_value.new.self < length l.reader = rw (← going.1) c.in_ok-skip_value.ensures.shorter in
    let passed : skip_value c.args.levels l.reader ≡ Some c.skip_value.new.self =
    rw (← going.1) c.in_ok-skip_value.ensures.value in (
      n - 1,
      omega (arith, l.invariant.1),
      l.invariant.2
          ∙ one_passed c.args.levels n l.reader going.0 l.count _ (omega (arith, l.invariant.1)) passed,
      omega (arith, l.invariant.3),
    )

pub returns-in_err-skip_value : goal.returns-in_err-skip_value
returns-in_err-skip_value c =
    let l = c.loop-reader in
    let going : (after_end_array l.reader ≡ None) × (c.take_end_array.new.self ≡ l.reader) = grind arith in
    let bad : skip_value c.args.levels l.reader ≡ None = rw (← going.1) c.in_err-skip_value.ensures.value in
    let none = l.invariant.2 ∙ bad_element c.args.levels l.invariant.0 l.reader going.0 l.count bad in
    grind (arith, none)

pub returns : goal.returns
returns c =
    let l = c.loop-reader in
    l.invariant.2
    ∙ all_passed c.args.levels l.invariant.0 l.count l.reader c.take_end_array.new.self l.invariant.1 (grind arith)
