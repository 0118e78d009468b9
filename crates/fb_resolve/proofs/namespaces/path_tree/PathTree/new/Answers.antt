use Rattle.std.proofs.Common.{ap, subst, sym}
use Rattle.fb_resolve.specs.PathTree.{links_in, AreLinks}
use Rattle.fb_resolve.proofs.namespaces.PathsGrown.{links-empty, paths-empty}
use Rattle.fb_resolve.proofs.namespaces.path_tree.PathTree.new.Goals as goal

pub returns-clause-tree : goal.returns-clause-tree
returns-clause-tree c =
    subst AreLinks (sym (ap links_in c.with_hasher-links.ensures.empty)) links-empty

pub returns-clause-empty : goal.returns-clause-empty
returns-clause-empty c = rw (c.with_hasher-links.ensures.empty) paths-empty
