use Rattle.std.proofs.Common.{◌≡◌, zero, suc, ◌+◌, arith}
use Rattle.fb_pieces.specs.InBrackets.{TextIsReadWithoutBrackets, in_brackets, in_arrays}
use Rattle.fb_pieces.proofs.laws.RunsMakeTheArray.{element_is_read_without_brackets_shown}
use Rattle.fb_pieces.proofs.laws.text_is_read_without_brackets.Goals as goal

without-brackets : TextIsReadWithoutBrackets
without-brackets levels zero text d read =
    let none : 0 + levels ≡ levels = omega arith in
    rw none at read
without-brackets levels (suc n) text d read =
    let one : suc n + levels ≡ suc (n + levels) = omega arith in
    without-brackets levels n text d
    (element_is_read_without_brackets_shown (n + levels) (in_brackets n text) (in_arrays n d) (rw one at read))

pub returns : goal.returns
returns c = without-brackets
