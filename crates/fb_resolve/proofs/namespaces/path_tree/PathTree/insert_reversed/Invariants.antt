use Rattle.std.proofs.Common.{reverse, length}
use denote.Text.{Utf8}
use denote.Shadow.{shadow}
use Rattle.fb_resolve.specs.Words.{words}
use Rattle.fb_resolve.specs.PathTree.{paths, IsTree, KeepsPaths}
use Rattle.fb_resolve.proofs.namespaces.PathsLeft.{IsLeft}
use Rattle.fb_resolve.proofs.namespaces.path_tree.PathTree.insert_reversed.Given as goal

abbrev pub invariant-loop-before : goal.invariant-loop-before
invariant-loop-before l = record {
  text : shadow (Utf8 l.rest);
  tree : IsTree l.self;
  kept : KeepsPaths l.initial.self l.self;
  left : IsLeft (paths l.self) l.path (reverse (words l.rest)) (reverse (words l.name));
}

abbrev pub decreases-loop-before : goal.decreases-loop-before
decreases-loop-before l = length l.rest
