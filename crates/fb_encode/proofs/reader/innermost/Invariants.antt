use Rattle.std.proofs.Common.{◌≡◌}
use Rattle.serde_json.specs.View.{view as tree_view}
use Rattle.fb_pieces.specs.InBrackets.{in_arrays}
use Rattle.fb_encode.proofs.reader.innermost.Given as goal

-- As many arrays as were passed are around the tree that was found.
abbrev pub invariant-loop : goal.invariant-loop
invariant-loop l = tree_view l.tree ≡ in_arrays l.counter (tree_view l.inner)
