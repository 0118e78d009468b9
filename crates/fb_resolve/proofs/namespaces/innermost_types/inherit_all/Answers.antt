use Rattle.std.proofs.Common.{rules, arith}
use Rattle.fb_resolve.specs.PathTree.{paths}
use Rattle.fb_resolve.specs.NamedTypes.{type_at}
use Rattle.fb_resolve.proofs.namespaces.innermost_types.InnermostIsInherited.{inherited-more, inherited-all}
use Rattle.fb_resolve.proofs.namespaces.innermost_types.InnermostIsInherited.{inherited-first}
use Rattle.fb_resolve.proofs.namespaces.innermost_types.inherit_all.Goals as goal

pub loop-path-init : goal.loop-path-init
loop-path-init c = record {
  kept = c.requires.maps;
  path = search rules;
  name = search rules;
  done = λ types rest n was p at. inherited-first c.args.tree.now c.requires.tree types rest n
      (type_at c.args.noted.now) was p at;
}

pub loop-path-preserved : goal.loop-path-preserved
loop-path-preserved c = record {
  kept = search rules;
  path = search rules;
  name = search rules;
  done = λ types rest n was p at. inherited-more (paths c.args.tree.now) types rest n
      (λ q. type_at c.loop-path.noted q n) (λ q. type_at c.inherit.new.self q n) c.loop-path.path c.in-Some.outer
      c.in-Some._word.now
      (search rules) (search rules) (c.loop-path.invariant.done types rest n was)
      (λ q. c.in_ok-inherit.ensures.noted q n) (omega arith) p at;
}

pub returns-clause-inherited : goal.returns-clause-inherited
returns-clause-inherited c = λ types rest n was p at. inherited-all
    (paths c.args.tree.now) types rest c.loop-path.path p (type_at c.loop-path.noted p n) (omega arith)
    (c.loop-path.invariant.done types rest n was p at)
