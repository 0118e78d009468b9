use Rattle.std.proofs.Common.{None, Some}
use Rattle.fb_resolve.proofs.PathsKept.{path_inside, placed_grown}
use Rattle.fb_resolve.proofs.walk.DeclarationWalk.enter.Goals as goal

pub returns-clause-placed : goal.returns-clause-placed
returns-clause-placed c =
    let w = c.args.self.now in
    let tree = c.insert_words.new.self in
    let made = c.in_ok-self.ensures in
    let path = c.in_ok-self.field-0 in
    placed_grown w tree w.used (Some c.as_str-name.result) path made.tree made.kept c.requires.placed.used (λ n p h. h)
    (path_inside w.tree tree 0 path None c.as_str-name.result.now c.requires.placed.tree.first made.path)
    c.requires.placed
