use Rattle.std.proofs.Common.{◌≡◌, ◌+◌, arith}
use Rattle.std.proofs.lemmas.List.{length-map}
use Rattle.fb_resolve.specs.PathTree.{link_of}
use Rattle.fb_resolve.proofs.namespaces.PathsGrown.{link_read}
use Rattle.fb_resolve.proofs.namespaces.path_tree.PathTree.split_last.Goals as goal

pub bounds-branch-branch : goal.bounds-branch-branch
bounds-branch-branch c =
    let behind : c.args.path ≡ c.in_ok-checked_sub.field-0 + 1 =
    omega (arith, c.in_ok-checked_sub.ensures.0, c.in_ok-checked_sub.ensures.1) in
    rw c.as_slice.ensures.keys
    (omega (arith, behind, c.requires.inside, c.requires.tree.count, length-map c.args.self.now.links.keys link_of))

pub returns-clause-before : goal.returns-clause-before
returns-clause-before c =
    let behind : c.args.path ≡ c.in_ok-checked_sub.field-0 + 1 =
    omega (arith, c.in_ok-checked_sub.ensures.0, c.in_ok-checked_sub.ensures.1) in
    rw c.as_slice.ensures.keys (link_read c.args.self.now.links.keys c.requires.tree
    c.in_ok-checked_sub.field-0 c.args.path _ behind c.requires.inside).0

pub returns-clause-word : goal.returns-clause-word
returns-clause-word c =
    let behind : c.args.path ≡ c.in_ok-checked_sub.field-0 + 1 =
    omega (arith, c.in_ok-checked_sub.ensures.0, c.in_ok-checked_sub.ensures.1) in
    rw c.as_slice.ensures.keys (link_read c.args.self.now.links.keys c.requires.tree
    c.in_ok-checked_sub.field-0 c.args.path _ behind c.requires.inside).1
