use Rattle.std.proofs.Common.{rules, sym}
use Rattle.fb_resolve.proofs.namespaces.PathsLeft.{if_none}
use Rattle.fb_resolve.proofs.namespaces.PathsGrown.{child_found, child_missing}
use Rattle.fb_resolve.proofs.namespaces.path_tree.PathTree.child.Goals as goal

pub returns-in_err-index-clause-missing : goal.returns-in_err-index-clause-missing
returns-in_err-index-clause-missing c = if_none {P = Unit {0}} c.from_residual.result (λ u.
    child_missing c.args.self.now.links.keys c.requires.tree c.args.path c.args.word.now c.requires.inside
    (sym c.in_err-index.ensures.found)) (search rules)

pub returns-clause-found : goal.returns-clause-found
returns-clause-found c = child_found c.args.self.now.links.keys c.requires.tree c.in_ok-index.index c.args.path
    c.args.word.now (sym c.in_ok-index.ensures.index)
