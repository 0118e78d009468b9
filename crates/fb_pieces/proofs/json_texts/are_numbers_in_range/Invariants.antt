use Rattle.std.proofs.Common.{◌≡◌, length}
use Rattle.fb_pieces.specs.JsonTexts.{are_in_range}
use Rattle.fb_pieces.proofs.json_texts.are_numbers_in_range.Given as goal

abbrev pub invariant-loop-token : goal.invariant-loop-token
invariant-loop-token l = are_in_range l.initial.reader ≡ are_in_range l.reader

abbrev pub decreases-loop-token : goal.decreases-loop-token
decreases-loop-token l = length l.reader
