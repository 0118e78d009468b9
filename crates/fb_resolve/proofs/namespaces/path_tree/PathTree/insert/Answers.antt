use Rattle.fb_resolve.proofs.namespaces.PathsGrown.{links-inserted, kept-inserted, child-inserted}
use Rattle.fb_resolve.proofs.namespaces.path_tree.PathTree.insert.Goals as goal

pub returns-clause-tree : goal.returns-clause-tree
returns-clause-tree c =
    links-inserted c.args.self.now.links.keys c.insert_full.new.self.keys c.requires.tree c.args.path c.args.word
    c.requires.inside c.in_ok-index.ensures.keys

pub returns-clause-kept : goal.returns-clause-kept
returns-clause-kept c =
    kept-inserted c.args.self.now.links.keys c.insert_full.new.self.keys c.args.path c.args.word
    c.in_ok-index.ensures.keys

pub returns-clause-child : goal.returns-clause-child
returns-clause-child c =
    child-inserted c.args.self.now.links.keys c.insert_full.new.self.keys c.requires.tree c.in_ok-index.index
    c.args.path c.args.word c.requires.inside c.in_ok-index.ensures.keys c.in_ok-index.ensures.index
