use Rattle.std.proofs.Common.{◌++◌, [], get_or, length}
use denote.Text.{Utf8}
use denote.Shadow.{shadow}
use Rattle.fb_resolve.specs.Words.{words}
use Rattle.fb_resolve.specs.PathTree.{paths, IsTree, KeepsPaths}
use Rattle.fb_resolve.proofs.namespaces.PathsLeft.{IsLeft}
use Rattle.fb_resolve.proofs.namespaces.path_tree.PathTree.insert_words.Given as goal

abbrev pub invariant-loop-word : goal.invariant-loop-word
invariant-loop-word l = record {
  text : shadow (Utf8 l.rest);
  tree : IsTree l.self;
  kept : KeepsPaths l.initial.self l.self;
  left : IsLeft (paths l.self) l.path (words l.rest) (get_or (paths l.initial.self) l.initial.path [] ++ words l.name);
}

abbrev pub decreases-loop-word : goal.decreases-loop-word
decreases-loop-word l = length l.rest
