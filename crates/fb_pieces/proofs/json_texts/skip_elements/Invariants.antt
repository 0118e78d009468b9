use Rattle.std.proofs.Common.{◌≡◌, ◌≤◌, ◌+◌, ℕ, length}
use Rattle.json.specs.Json.{items, value}
use Rattle.fb_pieces.specs.JsonTexts.{elements_passed}
use Rattle.fb_pieces.proofs.json_texts.ArrayIsReadByItsElements.{add, counted}
use Rattle.fb_pieces.proofs.json_texts.skip_elements.Given as goal

-- The elements that were passed, and those of what is left, are all.
abbrev pub invariant-loop-reader : goal.invariant-loop-reader
invariant-loop-reader l =
    (n : ℕ) × (length l.reader ≤ n)
    × (elements_passed l.levels l.initial.reader ≡ add l.count (counted (items (value l.levels) n l.reader)))
    × (l.count + length l.reader ≤ length l.initial.reader)

abbrev pub decreases-loop-reader : goal.decreases-loop-reader
decreases-loop-reader l = length l.reader
