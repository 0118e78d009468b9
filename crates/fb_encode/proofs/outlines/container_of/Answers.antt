use Rattle.std.proofs.Common.{rules, refl}
use Rattle.fb_encode.proofs.outlines.BracketIsOfItsContainer.{braced, bracketed, quoted}
use Rattle.fb_encode.proofs.outlines.container_of.Goals as goal

-- src/outlines.rt:48:1
pub returns-in-Some-eq91 : goal.returns-in-Some-eq91
returns-in-Some-eq91 c =
    bracketed c.args.text.now c.leading_blanks-at.result 91 c.leading_blanks-at.ensures.blanks (search rules)
    (search rules) refl

-- src/outlines.rt:48:1
pub returns-in-Some-eq123 : goal.returns-in-Some-eq123
returns-in-Some-eq123 c =
    braced c.args.text.now c.leading_blanks-at.result 123 c.leading_blanks-at.ensures.blanks (search rules)
    (search rules) refl

-- src/outlines.rt:55:1
pub returns-in-Some-eq34 : goal.returns-in-Some-eq34
returns-in-Some-eq34 c =
    quoted c.args.text.now c.leading_blanks-at.result 34 c.leading_blanks-at.ensures.blanks (search rules)
    (search rules) refl
