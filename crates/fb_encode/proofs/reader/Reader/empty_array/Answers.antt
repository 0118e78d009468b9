use Rattle.std.proofs.Common.{◌≡◌, ◌∙◌, Some, ap, arith}
use Rattle.serde_json.specs.Data.{array}
use Rattle.serde_json.specs.View.{items_view}
use Rattle.serde_json.proofs.Views.{view-Array}
use Rattle.fb_encode.proofs.reader.RunIsCounted.{no_elements}
use Rattle.fb_encode.proofs.reader.Reader.empty_array.Goals as goal

pub returns-in-Some-eq0 : goal.returns-in-Some-eq0
returns-in-Some-eq0 c =
    let none : c.in-Some-eq0.field-0 ≡ 0 = omega arith in (
      view-Array _ ∙ ap (λ vs. array (items_view vs)) c.new.ensures.items,
      no_elements c.args.excerpt.brackets c.args.excerpt.text.now
          ((c.in_ok-count_elements.ensures 0).0 (c.in-Some-eq0.is ∙ ap Some none)),
    )
